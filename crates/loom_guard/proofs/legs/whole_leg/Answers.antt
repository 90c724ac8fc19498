use Rattle.std.proofs.Common.{inl, sym, subst}
use Rattle.machine_run.specs.declared.running.Halted.{Halted}
use Rattle.loom_guard.specs.Legs.{LegStops}
use Rattle.loom_guard.proofs.legs.whole_leg.Goals as goal

pub returns-in-Err-clause-moment : goal.returns-in-Err-clause-moment
returns-in-Err-clause-moment g c = λ told h begins core run same out.
    subst (λ (x : Halted). LegStops c.args.events.now c.args.steps run c.args.serial (g.M.ObjectMemory.told c.set_out.new.m) x) (sym c.halt_of.ensures)
    (record { serial_is = inl (c.set_out.ensures.serial h c.args.events.now core run out); says = λ e. absurd (cc) })
