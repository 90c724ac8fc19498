use Rattle.std.proofs.Common.{ℕ, sym, ◌∙◌, ap, subst}
use Rattle.blue_model.specs.Guarded.{guarded_on}
use Rattle.machine_run.specs.Run.{HaltsAs}
use Rattle.machine_run.specs.declared.running.Halted.{Halted}
use Rattle.guarded_run.specs.Course.{course_on, serial_at}
use Rattle.loom_guard.specs.Legs.{LegStops}
use Rattle.loom_guard.proofs.LegLaws.{kept-is, leaves-awaits, leaves-kept, leaves-serial}
use Rattle.loom_guard.proofs.MomentLaws.{serial-by, serial-ended, unpictured-said}
use Rattle.loom_guard.proofs.legs.run_on.Goals as goal

pub returns-in-Err-clause-comes : goal.returns-in-Err-clause-comes
returns-in-Err-clause-comes g c = λ told run serial is_at.
    subst (λ (x : Halted). HaltsAs x.why x.ran c.args.steps (g.M.ObjectMemory.told c.run_leg_observed.new.m) (course_on c.args.events.now c.args.steps run)) (sym c.halt_of.ensures)
    (c.in-Err.ensures.leaves told run serial is_at)

pub returns-then-is_kept-clause-comes : goal.returns-then-is_kept-clause-comes
returns-then-is_kept-clause-comes g c = λ told run serial is_at.
    leaves-kept c.args.events.now c.args.steps run serial (g.M.ObjectMemory.told c.run_leg_observed.new.m) c.run_leg_observed.new.cpu c.in-Ok.end c.state_of.result (kept-is c.in-Ok.end (sym c.is_kept.ensures ∙ c.if-is_kept.true)) c.state_of.ensures
    (c.in-Ok.ensures.leaves told run serial is_at)

pub returns-in-Ok-finish_leg-clause-comes : goal.returns-in-Ok-finish_leg-clause-comes
returns-in-Ok-finish_leg-clause-comes g c = λ told run serial is_at.
    let lines = c.args.events.now in
    let steps = c.args.steps in
    let t = g.M.ObjectMemory.told c.run_leg_observed.new.m in
    let cpu = c.run_leg_observed.new.cpu in
    let is = sym c.is_kept.ensures ∙ c.if-is_kept.false in
    let leaves = c.in-Ok.ensures.leaves told run serial is_at in (
      c.in-Ok-finish_leg.ensures.ends (c.in-Ok.ensures.later.tells ∙ told) steps (course_on lines steps run) (leaves-awaits lines steps run serial t cpu c.in-Ok.end is leaves),
      leaves-serial lines steps run serial t cpu c.in-Ok.end is leaves,
    )

pub returns-in-Err-finish_leg-clause-comes : goal.returns-in-Err-finish_leg-clause-comes
returns-in-Err-finish_leg-clause-comes g c = λ told run serial is_at.
    c.in-Err-finish_leg.ensures.ends (c.in-Ok.ensures.later.tells ∙ told) c.args.steps (course_on c.args.events.now c.args.steps run)
    (leaves-awaits c.args.events.now c.args.steps run serial (g.M.ObjectMemory.told c.run_leg_observed.new.m) c.run_leg_observed.new.cpu c.in-Ok.end (sym c.is_kept.ensures ∙ c.if-is_kept.false) (c.in-Ok.ensures.leaves told run serial is_at))

-- ---- where it stopped

pub returns-in-Err-clause-moment : goal.returns-in-Err-clause-moment
returns-in-Err-clause-moment g c = λ told run serial is_at.
    subst (λ (x : Halted). LegStops c.args.events.now c.args.steps run serial (g.M.ObjectMemory.told c.run_leg_observed.new.m) x) (sym c.halt_of.ensures)
    (record { serial_is = c.in-Err.ensures.serial told run serial is_at; says = λ e. absurd (cc) })

pub returns-in-Err-finish_leg-clause-moment : goal.returns-in-Err-finish_leg-clause-moment
returns-in-Err-finish_leg-clause-moment g c = λ told run serial is_at.
    let lines = c.args.events.now in
    let steps = c.args.steps in
    let t = g.M.ObjectMemory.told c.run_leg_observed.new.m in
    let new = g.M.ObjectMemory.told c.finish_leg.new.m in
    let cpu = c.run_leg_observed.new.cpu in
    let is = sym c.is_kept.ensures ∙ c.if-is_kept.false in
    let halted = c.in-Err-finish_leg.halted in
    let count = c.in-Err-finish_leg.ensures.ran in
    let course = course_on lines steps run in
    let awaits = leaves-awaits lines steps run serial t cpu c.in-Ok.end is (c.in-Ok.ensures.leaves told run serial is_at) in
    let same = serial-ended lines run serial cpu.ran c.in-Ok.end is (c.in-Ok.ensures.serial told run serial is_at) in
    record {
      serial_is = serial-by lines run serial halted.ran halted.why (ap (λ (k : ℕ). serial_at (guarded_on lines k run)) count ∙ same);
      says = unpictured-said t new cpu c.in-Ok.end course halted.ran steps halted.why awaits (c.in-Err-finish_leg.ensures.ends (c.in-Ok.ensures.later.tells ∙ told) steps course awaits) count c.finish_leg.ensures.later.speaks;
    }
