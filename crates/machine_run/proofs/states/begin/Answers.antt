use Rattle.blue_model.specs.State.{begin}
use Rattle.contexts.proofs.ServesLaws.{serves_exit}
use Rattle.machine_run.specs.States.{model_state}
use Rattle.machine_run.proofs.StateLaws.{word_read, stays_there, begin_serves}
use Rattle.machine_run.proofs.states.begin.Goals as goal

pub returns-in_err-start-clause-serves : goal.returns-in_err-start-clause-serves
unfolding begin
returns-in_err-start-clause-serves g c = serves_exit _ _ c.in_err-start.ensures.serves c.from_residual.ensures.1

pub restore-requires-clause-display : goal.restore-requires-clause-display
restore-requires-clause-display g c =
    let told = g.M.ObjectMemory.told in
    stays_there (told c.args.m.now) (told c.start.new.m) c.args.cpu.now c.start.new.cpu c.args.state.now.display c.new-display.result c.requires.fit.ready c.in_ok-start.ensures.fit.ready c.in_ok-start.ensures.serves (λ tells. (c.requires.state tells).display) c.new-display.ensures.name c.new-display.ensures.value

pub restore-requires-clause-input : goal.restore-requires-clause-input
restore-requires-clause-input g c =
    let told = g.M.ObjectMemory.told in
    stays_there (told c.args.m.now) (told c.start.new.m) c.args.cpu.now c.start.new.cpu c.args.state.now.input c.new-input.result c.requires.fit.ready c.in_ok-start.ensures.fit.ready c.in_ok-start.ensures.serves (λ tells. (c.requires.state tells).input) c.new-input.ensures.name c.new-input.ensures.value

pub restore-requires-clause-timer : goal.restore-requires-clause-timer
restore-requires-clause-timer g c =
    let told = g.M.ObjectMemory.told in
    stays_there (told c.args.m.now) (told c.start.new.m) c.args.cpu.now c.start.new.cpu c.args.state.now.timer c.new-timer.result c.requires.fit.ready c.in_ok-start.ensures.fit.ready c.in_ok-start.ensures.serves (λ tells. (c.requires.state tells).timer) c.new-timer.ensures.name c.new-timer.ensures.value

pub returns-clause-serves : goal.returns-clause-serves
returns-clause-serves g c =
    let at = g.M.ObjectMemory.told c.args.m.now in
    begin_serves (model_state c.args.state.now) c.new-display.result c.new-input.result c.new-timer.result c.in_ok-start.ensures.serves c.restore.ensures.serves
    (λ tells. word_read at c.args.state.now.display c.new-display.result (c.requires.state tells).display c.new-display.ensures.name c.new-display.ensures.value)
    (λ tells. word_read at c.args.state.now.input c.new-input.result (c.requires.state tells).input c.new-input.ensures.name c.new-input.ensures.value)
    (λ tells. word_read at c.args.state.now.timer c.new-timer.result (c.requires.state tells).timer c.new-timer.ensures.name c.new-timer.ensures.value)
