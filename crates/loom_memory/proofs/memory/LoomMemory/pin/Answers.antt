use Rattle.purger.specs.declared.room.Pinned.{Pinned}
use Rattle.loom_memory.specs.Memory.{pin_in}
use Rattle.loom_memory.proofs.TimeLaws.{stays-on}
use Rattle.std.proofs.Common.{Ok, ◌≡◌, [], true, refl, sym, ◌∙◌, ap, subst}
use Rattle.long_names.specs.Access.{Pin, Nothing}
use Rattle.object_memory.specs.Told.{Told, IsReady}
use Rattle.object_table.specs.Entries.{is_short}
use Rattle.core_view.specs.Words.{meant}
use Rattle.core_view.proofs.Core.{placed-used}
use Rattle.leaf_lambda.specs.Parts.{core_of}
use Rattle.loom_memory.specs.Memory.{loom_told, name_if}
use Rattle.loom_memory.proofs.AccessLaws.{refused-is}
use Rattle.loom_memory.proofs.MakingLaws.{thinned-ready}
use Rattle.loom_memory.proofs.SlotLaws.{pin-name, pin-has, ready-pin}
use Rattle.loom_memory.proofs.ReachLaws.{done-by, pin-freed}
use Rattle.long_names.specs.State.{name_at}
use Rattle.loom_memory.proofs.GentleLaws.{steady-sparing, sparing-err}
use Rattle.loom_memory.proofs.OneLaws.{brings-then}
use Rattle.loom_memory.proofs.memory.LoomMemory.pin.Goals as goal
use Rattle.loom_memory.proofs.memory.LoomMemory.pin.Given as given

short-of : (g : given.Over) (c : goal.After-put_slot g) → is_short c.in-Ok.s.0 ≡ true
short-of g c = c.load.new.self.pager.levels.whole.parts.core.short c.in-Ok.s.0 (placed-used ((core_of c.load.new.self.pager.levels.parts).entries c.in-Ok.s.0).state c.in-Ok.ensures.here.loaded.at c.in-Ok.ensures.here.loaded.place)

value-of : (g : given.Over) (c : goal.After-put_slot g) → (loom_told g.H.Host c.load.new.self).regs c.args.r ≡ meant (core_of c.load.new.self.pager.levels.parts).entries [] 0 c.in-Ok.s.0
unfolding loom_told
value-of g c = ap (meant (core_of c.load.new.self.pager.levels.parts).entries [] 0) (sym c.in-Ok.ensures.here.word)

pub put_slot-requires-clause-body : goal.put_slot-requires-clause-body
put_slot-requires-clause-body g c = λ some. (c.load.new.self.pager.levels.whole.parts.core.short c.in-Ok.s.0 (placed-used ((core_of c.load.new.self.pager.levels.parts).entries c.in-Ok.s.0).state c.in-Ok.ensures.here.loaded.at c.in-Ok.ensures.here.loaded.place), (c.in-Ok.ensures.here.loaded.at, c.in-Ok.ensures.here.loaded.place))

pub returns-in-Ok-clause-access : goal.returns-in-Ok-clause-access
returns-in-Ok-clause-access g c =
    let n = c.load.new.self in
    pin-freed (loom_told g.H.Host c.args.self.now) (loom_told g.H.Host n) (loom_told g.H.Host c.put_slot.new.self) c.args.slot c.args.r (name_if (core_of n.pager.levels.parts).entries c.in-Ok.s.0) c.in-Ok.ensures.thinned
    (pin-name (core_of n.pager.levels.parts) c.in-Ok.s.0 ((loom_told g.H.Host n).regs c.args.r) (short-of g c) (value-of g c)) c.put_slot.ensures.told (c.in-Ok.ensures.here.core (Pin c.args.slot c.args.r) refl refl)

pub returns-in-Ok-clause-fit : goal.returns-in-Ok-clause-fit
returns-in-Ok-clause-fit g c =
    let n = c.load.new.self in
    let ready = thinned-ready (loom_told g.H.Host c.args.self.now) (loom_told g.H.Host n) c.in-Ok.ensures.thinned c.requires.fit.ready in
    record {
      sound = c.put_slot.ensures.leaves.sound;
      ready = subst (λ (t : Told). IsReady t) (sym c.put_slot.ensures.told) (ready-pin (loom_told g.H.Host n) c.args.slot (name_if (core_of n.pager.levels.parts).entries c.in-Ok.s.0)
          (λ k e told. pin-has (loom_told g.H.Host n) (core_of n.pager.levels.parts) c.args.r c.in-Ok.s.0 k ready (short-of g c) (value-of g c) e told) ready);
      lender = c.put_slot.ensures.leaves.lender ∙ c.in-Ok.ensures.leaves.lender;
      outside = c.put_slot.ensures.leaves.outside ∙ c.in-Ok.ensures.leaves.outside;
    }

pub returns-in-Err-clause-access : goal.returns-in-Err-clause-access
returns-in-Err-clause-access g c = refused-is (loom_told g.H.Host c.args.self.now) (loom_told g.H.Host c.load.new.self) (Pin c.args.slot c.args.r) (λ _. Nothing) c.in-Err.f (c.in-Err.ensures.err (Pin c.args.slot c.args.r) refl refl tt)

pub returns-in-Ok-clause-own : goal.returns-in-Ok-clause-own
returns-in-Ok-clause-own g c =
    let m = c.args.self.now in
    steady-sparing g.H.Host m c.load.new.self c.put_slot.new.self (name_at ((loom_told g.H.Host m).regs c.args.r)) c.in-Ok.s _ c.in-Ok.ensures.own c.put_slot.ensures.steady c.load.new.self.pager.levels.whole.parts.core c.put_slot.new.self.pager.levels.whole.parts.core (ap (λ (t : Told). t.bounds) c.put_slot.ensures.told)

pub returns-in-Err-clause-own : goal.returns-in-Err-clause-own
returns-in-Err-clause-own g c = sparing-err g.H.Host c.args.self.now c.load.new.self (name_at ((loom_told g.H.Host c.args.self.now).regs c.args.r)) c.in-Err.f c.in-Err.ensures.own

pub returns-in-Ok-clause-brings : goal.returns-in-Ok-clause-brings
returns-in-Ok-clause-brings g c = brings-then c.args.self.now c.load.new.self c.put_slot.new.self _ c.load.ensures.brings c.put_slot.ensures.steady.idle.fetches

pub returns-in-Ok-clause-gone : goal.returns-in-Ok-clause-gone
returns-in-Ok-clause-gone g c = done-by {T = Unit {0}} (Ok tt) g.H.Host c.args.self.now c.load.new.self c.put_slot.new.self (name_at ((loom_told g.H.Host c.args.self.now).regs c.args.r)) (Pin c.args.slot c.args.r) c.in-Ok.ensures.thinned c.in-Ok.ensures.gone (λ told. ap (λ (t : Told). t.heap) c.put_slot.ensures.told) c.put_slot.ensures.due
    (stays-on c.args.self.now c.load.new.self c.put_slot.new.self (pin_in c.args.self.now.pager.pinned c.args.slot) (pin_in c.load.new.self.pager.pinned c.args.slot) c.in-Ok.ensures.gone.stays (ap (λ (x : Pinned). pin_in x c.args.slot) c.in-Ok.ensures.pins) c.put_slot.ensures.stays)
