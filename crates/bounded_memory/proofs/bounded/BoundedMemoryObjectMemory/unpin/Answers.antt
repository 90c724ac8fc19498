use Rattle.std.proofs.Common.{refl}
use Rattle.std.proofs.Common.{None, sym, subst}
use Rattle.object_memory.specs.Told.{Told}
use Rattle.object_memory.specs.Plain.{plain_told}
use Rattle.bounded_memory.specs.Bounded.{ArePinned}
use Rattle.bounded_memory.proofs.MemoryLaws.{set-pins, ready-still}
use Rattle.bounded_memory.proofs.bounded.BoundedMemoryObjectMemory.unpin.Goals as goal

pub returns-clause-fit : goal.returns-clause-fit
returns-clause-fit c = record {
  sound = (let m = c.args.self.now in
      let p = plain_told m.memory in
      record { pinned = subst (λ (t : Told). ArePinned t c.set.new.self) (sym c.unpin.ensures.told) (set-pins p.heap p.slots m.pins c.set.new.self c.args.slot None None c.set.ensures tt c.requires.sound.pinned) });
  ready = ready-still c.args.self.now c.unpin.new.self _ c.unpin.ensures.told refl c.unpin.ensures.fit.ready;
  lender = refl;
  outside = refl;
}
