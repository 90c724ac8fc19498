use Rattle.std.proofs.Common.{None, refl, sym, subst}
use Rattle.long_names.specs.State.{set_slot}
use Rattle.object_memory.specs.Told.{Told, IsReady}
use Rattle.object_memory.proofs.PlainLaws.{ready-unpin}
use Rattle.loom_memory.specs.Memory.{loom_told}
use Rattle.loom_memory.proofs.memory.LoomMemory.unpin.Goals as goal

pub put_slot-requires-clause-body : goal.put_slot-requires-clause-body
put_slot-requires-clause-body g c = λ some. absurd (some refl)

pub returns-clause-told : goal.returns-clause-told
returns-clause-told g c = c.put_slot.ensures.told

pub returns-clause-fit : goal.returns-clause-fit
returns-clause-fit g c = record {
  sound = c.put_slot.ensures.leaves.sound;
  ready = λ ready. subst (λ (t : Told). IsReady t) (sym c.put_slot.ensures.told) (ready-unpin (loom_told g.H.Host c.args.self.now) (set_slot (loom_told g.H.Host c.args.self.now).slots c.args.slot None) c.args.slot refl ready);
  lender = c.put_slot.ensures.leaves.lender;
  outside = c.put_slot.ensures.leaves.outside;
}

pub returns-clause-steady : goal.returns-clause-steady
returns-clause-steady g c = c.put_slot.ensures.steady
