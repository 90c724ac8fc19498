use Rattle.std.proofs.Common.{◌∙◌}
use Rattle.machine_run.specs.States.{model_state}
use Rattle.machine_run.proofs.RunningLaws.{start_settled, goes_start, goes_run, goes_park, goes_through, goes_exit}
use Rattle.machine_run.proofs.running.go_through.Goals as goal

pub returns-in_err-begin-clause-ends : goal.returns-in_err-begin-clause-ends
returns-in_err-begin-clause-ends g c = λ told h begins.
    let at = g.M.ObjectMemory.told in
    goes_exit (at c.begin.new.m) c.begin.new.cpu c.args.steps c.in_err-begin.field-0.0 c.from_residual.result _ c.from_residual.ensures.1
    (goes_start c.args.events.now c.args.steps (model_state c.args.state.now) h (at c.args.m.now) (at c.begin.new.m) c.args.cpu.now c.begin.new.cpu c.in_err-begin.field-0.0 told begins c.in_err-begin.ensures.serves c.in_err-begin.ensures.ran)

pub returns-in_err-step-clause-ends : goal.returns-in_err-step-clause-ends
returns-in_err-step-clause-ends g c = λ told h begins.
    let at = g.M.ObjectMemory.told in
    goes_exit (at c.run_observed.new.m) c.run_observed.new.cpu c.args.steps c.in_err-step.field-0.0 c.from_residual-in_err-step.result _ c.from_residual-in_err-step.ensures.1
    (goes_run c.args.events.now c.args.steps (model_state c.args.state.now) h (at c.args.m.now) (at c.begin.new.m) (at c.run_observed.new.m) c.args.cpu.now c.begin.new.cpu c.run_observed.new.cpu c.in_err-step.field-0.0 told begins c.in_ok-begin.ensures.serves c.in_ok-begin.ensures.ran (start_settled (model_state c.args.state.now) h (at c.args.m.now) (at c.begin.new.m) c.args.cpu.now c.begin.new.cpu told begins c.in_ok-begin.ensures.fit.ready c.in_ok-begin.ensures.rest c.in_ok-begin.ensures.serves)
    (λ m st. c.in_err-step.ensures.runs (c.in_ok-begin.ensures.serves.later.tells ∙ told) m st))

pub returns-in_err-park-clause-ends : goal.returns-in_err-park-clause-ends
returns-in_err-park-clause-ends g c = λ told h begins.
    let at = g.M.ObjectMemory.told in
    let now = c.in_ok-begin.ensures.serves.later.tells ∙ told in
    goes_exit (at c.park.new.m) c.park.new.cpu c.args.steps c.in_err-park.field-0.0 c.from_residual-in_err-park.result _ c.from_residual-in_err-park.ensures.1
    (goes_park c.args.events.now c.in_ok-step.step c.args.steps (model_state c.args.state.now) h (at c.args.m.now) (at c.begin.new.m) (at c.run_observed.new.m) (at c.park.new.m) c.args.cpu.now c.begin.new.cpu c.run_observed.new.cpu c.park.new.cpu c.in_err-park.field-0.0 told begins c.in_ok-begin.ensures.serves c.in_ok-begin.ensures.ran
    (λ m st. c.in_ok-step.ensures.runs now m st) (c.in_ok-step.ensures.later.tells ∙ now) c.in_err-park.ensures.serves c.in_err-park.ensures.numbers)

pub returns-clause-ends : goal.returns-clause-ends
returns-clause-ends g c = λ told h begins.
    let at = g.M.ObjectMemory.told in
    let now = c.in_ok-begin.ensures.serves.later.tells ∙ told in
    goes_through c.args.events.now c.in_ok-step.step c.args.steps (model_state c.args.state.now) h (at c.args.m.now) (at c.begin.new.m) (at c.run_observed.new.m) (at c.park.new.m) c.args.cpu.now c.begin.new.cpu c.run_observed.new.cpu c.park.new.cpu told begins c.in_ok-begin.ensures.serves c.in_ok-begin.ensures.ran
    (λ m st. c.in_ok-step.ensures.runs now m st) (c.in_ok-step.ensures.later.tells ∙ now) c.in_ok-park.ensures.serves c.in_ok-park.ensures.numbers

pub returns-clause-keeps : goal.returns-clause-keeps
returns-clause-keeps g c = λ kept. c.in_ok-begin.ensures.serves.vault (c.in_ok-step.ensures.keeps kept)
