use Rattle.std.proofs.Common.{sym, subst}
use Rattle.blue_model.specs.Logs.{course}
use Rattle.machine_run.specs.States.{model_state}
use Rattle.loom_memory.specs.Memory.{loom_now, loom_told}
use Rattle.loom_words.specs.Command.{row_for}
use Rattle.loom_run.specs.Meanings.{meanings}
use Rattle.loom_run.specs.Stages.{Running}
use Rattle.loom_run.specs.Steps.{IsRefusal, WasStopped}
use Rattle.loom_run.proofs.MachineLaws.{bounds-later, file-left, outside-leaves, refused-running, was-stopped, went-through}
use Rattle.loom_run.proofs.MemoryLaws.{begins-run, keeps-state}
use Rattle.loom_run.proofs.machine.run_machine.Goals as goal

pub whole_run_observed-requires-clause-state : goal.whole_run_observed-requires-clause-state
unfolding loom_told
whole_run_observed-requires-clause-state g c = λ told. let b = c.requires.begins told in keeps-state b.0 c.args.state.now (loom_told g.H.Host c.args.memory.now) b.1 c.requires.ready told

pub returns-in-Ok-clause-runs : goal.returns-in-Ok-clause-runs
unfolding loom_told
returns-in-Ok-clause-runs g c = λ work h begins.
    let old = loom_told g.H.Host c.args.memory.now in
    went-through old (loom_told g.H.Host c.whole_run_observed.new.m) (row_for c.args.command.now) c.whole_run_observed.ensures.later c.requires.bounds c.in-Ok.finished (course c.args.events.now c.args.command.now.steps (model_state c.args.state.now) h)
    (rw c.in-Ok.is at (c.whole_run_observed.ensures.ends work h (begins-run h c.args.state.now old begins)))

pub returns-in-Err-clause-runs : goal.returns-in-Err-clause-runs
unfolding loom_told
returns-in-Err-clause-runs g c = λ work h begins.
    let old = loom_told g.H.Host c.args.memory.now in
    let new = loom_told g.H.Host c.whole_run_observed.new.m in
    let row = row_for c.args.command.now in
    let run = course c.args.events.now c.args.command.now.steps (model_state c.args.state.now) h in
    let halted = c.in-Err.halted in
    subst (λ status. WasStopped old new row status run) (sym c.status_of.ensures)
    (was-stopped old new row halted.ran run c.whole_run_observed.ensures.later c.requires.bounds c.in-Err.ensures.ran halted.why (rw c.in-Err.is at (c.whole_run_observed.ensures.ends work h (begins-run h c.args.state.now old begins))) c.in-Err.ensures.fault)

pub returns-in-Ok-clause-sound : goal.returns-in-Ok-clause-sound
returns-in-Ok-clause-sound g c = rw c.in-Ok.is at c.whole_run_observed.ensures.fit.sound

pub returns-in-Ok-clause-ready : goal.returns-in-Ok-clause-ready
returns-in-Ok-clause-ready g c = rw c.in-Ok.is at c.whole_run_observed.ensures.fit.ready

pub returns-in-Ok-clause-file : goal.returns-in-Ok-clause-file
returns-in-Ok-clause-file g c = file-left g.H.Host c.args.memory.now c.whole_run_observed.new.m c.whole_run_observed.ensures.fit.outside

pub returns-in-Err-clause-file : goal.returns-in-Err-clause-file
returns-in-Err-clause-file g c = file-left g.H.Host c.args.memory.now c.whole_run_observed.new.m c.whole_run_observed.ensures.fit.outside

pub returns-in-Ok-clause-others : goal.returns-in-Ok-clause-others
returns-in-Ok-clause-others g c = outside-leaves g.H.Host c.args.memory.now c.whole_run_observed.new.m c.whole_run_observed.ensures.fit.outside c.whole_run_observed.ensures.later.bounds

pub returns-in-Err-clause-others : goal.returns-in-Err-clause-others
returns-in-Err-clause-others g c = outside-leaves g.H.Host c.args.memory.now c.whole_run_observed.new.m c.whole_run_observed.ensures.fit.outside c.whole_run_observed.ensures.later.bounds

pub returns-in-Err-clause-refused : goal.returns-in-Err-clause-refused
returns-in-Err-clause-refused g c =
    let m = c.args.memory.now in
    let n = c.whole_run_observed.new.m in
    let row = row_for c.args.command.now in
    subst (λ status. IsRefusal g.H.Host.tells (meanings g.H.Host (loom_now m)) (meanings g.H.Host (loom_now n)) row Running status) (sym c.status_of.ensures)
    (refused-running g.H.Host m n row c.in-Err.halted.ran c.in-Err.ensures.ran (bounds-later row (loom_told g.H.Host m).bounds (loom_told g.H.Host n).bounds c.requires.bounds c.whole_run_observed.ensures.later.bounds) c.in-Err.halted.why c.in-Err.ensures.fault)
