use Rattle.machine_run.specs.States.{model_state}
use Rattle.guarded_run.specs.Legs.{guarded_first}
use Rattle.guarded_run.proofs.LegLaws.{start_at, start_halts, starts_exit}
use Rattle.guarded_run.proofs.legs.start_leg.Goals as goal

pub returns-in_err-begin-clause-starts : goal.returns-in_err-begin-clause-starts
returns-in_err-begin-clause-starts g c = λ told h begins events steps.
    let at = g.M.ObjectMemory.told in
    let state = model_state c.args.state.now in
    let stop = c.in_err-begin.field-0.0 in
    starts_exit events steps (guarded_first c.args.serial (at c.args.m.now).transcript state h) c.args.serial (at c.begin.new.m) c.begin.new.cpu stop c.from_residual.result c.from_residual.ensures.1
    (start_halts events steps c.args.serial state h (at c.args.m.now) (at c.begin.new.m) c.args.cpu.now c.begin.new.cpu stop told begins c.in_err-begin.ensures.serves c.in_err-begin.ensures.ran)

pub returns-clause-starts : goal.returns-clause-starts
returns-clause-starts g c = λ told h begins events steps.
    let at = g.M.ObjectMemory.told in
    let did = c.in_ok-begin.ensures in
    start_at events c.args.serial (model_state c.args.state.now) h (at c.args.m.now) (at c.begin.new.m) c.args.cpu.now c.begin.new.cpu told begins did.fit.ready did.rest did.serves did.ran
