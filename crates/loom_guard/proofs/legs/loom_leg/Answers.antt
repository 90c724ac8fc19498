use Rattle.std.proofs.Common.{sym, ◌∙◌, ap, subst}
use Rattle.blue_model.specs.Logs.{Course}
use Rattle.guarded_run.specs.Course.{course_on}
use Rattle.machine_run.specs.Run.{HaltsAs}
use Rattle.loom_host.specs.declared.outside.Role.TheVariants.{Transcript}
use Rattle.loom_memory.specs.Memory.{loom_now, loom_told}
use Rattle.loom_words.specs.Command.{row_for}
use Rattle.loom_run.specs.Meanings.{meanings}
use Rattle.loom_run.specs.Stages.{Running}
use Rattle.loom_run.specs.Steps.{IsRefusal, WasStopped}
use Rattle.loom_run.proofs.MachineLaws.{bounds-later, file-left, outside-leaves, refused-running}
use Rattle.loom_run.proofs.MemoryLaws.{begins-run, keeps-state}
use Rattle.loom_guard.specs.Legs.{told_since}
use Rattle.loom_guard.specs.Moments.{StopsAt}
use Rattle.loom_guard.proofs.LegLaws.{bounds-core, comes-ok, stopped-since}
use Rattle.loom_guard.proofs.MomentLaws.{moment-of}
use Rattle.loom_guard.proofs.legs.loom_leg.Goals as goal

pub whole_leg-requires-clause-state : goal.whole_leg-requires-clause-state
unfolding loom_told
whole_leg-requires-clause-state g c = λ told. let b = c.requires.begins told in keeps-state b.0 c.args.state.now (loom_told g.H.Host c.args.memory.now) b.1 c.requires.ready told

pub returns-in-Ok-clause-comes : goal.returns-in-Ok-clause-comes
unfolding loom_told
returns-in-Ok-clause-comes g c = λ work h begins run said course out same.
    let old = loom_told g.H.Host c.args.memory.now in
    let new = loom_told g.H.Host c.whole_leg.new.m in
    let row = row_for c.args.command.now in
    comes-ok said old new row c.whole_leg.ensures.later c.requires.bounds c.args.events.now run c.args.serial c.whole_leg.new.cpu c.in-Ok.leg course (course_on c.args.events.now row.steps run) same
    (c.in-Ok.ensures.comes work h (begins-run h c.args.state.now old begins) row.core run (bounds-core row old.bounds c.requires.bounds) out)

pub returns-in-Err-clause-comes : goal.returns-in-Err-clause-comes
unfolding loom_told
returns-in-Err-clause-comes g c = λ work h begins run said course out same.
    let old = loom_told g.H.Host c.args.memory.now in
    let new = loom_told g.H.Host c.whole_leg.new.m in
    let row = row_for c.args.command.now in
    let halted = c.in-Err.halted in
    subst (λ status. WasStopped (told_since said new) new row status course) (sym c.status_of.ensures)
    (stopped-since said old new row c.whole_leg.ensures.later c.requires.bounds halted.ran halted.why course c.in-Err.ensures.ran
    (subst (HaltsAs halted.why halted.ran row.steps new) same (c.in-Err.ensures.comes work h (begins-run h c.args.state.now old begins) row.core run (bounds-core row old.bounds c.requires.bounds) out)) c.in-Err.ensures.fault)

pub returns-in-Ok-clause-file : goal.returns-in-Ok-clause-file
returns-in-Ok-clause-file g c = file-left g.H.Host c.args.memory.now c.whole_leg.new.m c.whole_leg.ensures.fit.outside

pub returns-in-Err-clause-file : goal.returns-in-Err-clause-file
returns-in-Err-clause-file g c = file-left g.H.Host c.args.memory.now c.whole_leg.new.m c.whole_leg.ensures.fit.outside

pub returns-in-Ok-clause-others : goal.returns-in-Ok-clause-others
returns-in-Ok-clause-others g c = outside-leaves g.H.Host c.args.memory.now c.whole_leg.new.m c.whole_leg.ensures.fit.outside c.whole_leg.ensures.later.bounds

pub returns-in-Err-clause-others : goal.returns-in-Err-clause-others
returns-in-Err-clause-others g c = outside-leaves g.H.Host c.args.memory.now c.whole_leg.new.m c.whole_leg.ensures.fit.outside c.whole_leg.ensures.later.bounds

pub returns-in-Err-clause-refused : goal.returns-in-Err-clause-refused
returns-in-Err-clause-refused g c =
    let m = c.args.memory.now in
    let n = c.whole_leg.new.m in
    let row = row_for c.args.command.now in
    subst (λ status. IsRefusal g.H.Host.tells (meanings g.H.Host (loom_now m)) (meanings g.H.Host (loom_now n)) row Running status) (sym c.status_of.ensures)
    (refused-running g.H.Host m n row c.in-Err.halted.ran c.in-Err.ensures.ran (bounds-later row (loom_told g.H.Host m).bounds (loom_told g.H.Host n).bounds c.requires.bounds c.whole_leg.ensures.later.bounds) c.in-Err.halted.why c.in-Err.ensures.fault)

pub returns-in-Err-clause-moment : goal.returns-in-Err-clause-moment
unfolding loom_told
returns-in-Err-clause-moment g c = λ work h begins run said course out same.
    let old = loom_told g.H.Host c.args.memory.now in
    let new = loom_told g.H.Host c.whole_leg.new.m in
    let row = row_for c.args.command.now in
    let lines = c.args.events.now in
    let halted = c.in-Err.halted in
    let begun = begins-run h c.args.state.now old begins in
    let core = bounds-core row old.bounds c.requires.bounds in
    let stops = c.in-Err.ensures.moment work h begun row.core run core out in
    subst (λ status. StopsAt (g.H.Host.tells Transcript) row.steps lines run course said new.transcript c.args.serial status) (sym c.status_of.ensures)
    (moment-of row.steps lines run course said new c.args.serial halted.ran c.in-Err.ensures.ran halted.why (subst (HaltsAs halted.why halted.ran row.steps new) same (c.in-Err.ensures.comes work h begun row.core run core out)) stops.serial_is
    (λ why speaks. stops.says why speaks ∙ ap (λ (d : Course). d.said halted.ran) same))
