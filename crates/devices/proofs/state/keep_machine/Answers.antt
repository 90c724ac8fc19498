use Rattle.blue_model.specs.Devices.{keep_machine}
use Rattle.contexts.proofs.ServesLaws.{serves_then, serves_exit}
use Rattle.contexts.proofs.Steps.{numbers_then, done_serves}
use Rattle.contexts.proofs.TrialLaws.{true_then, false_fails}
use Rattle.devices.proofs.KeepLaws.{shut}
use Rattle.devices.proofs.state.keep_machine.Goals as goal

pub returns-in_err-stack-clause-serves : goal.returns-in_err-stack-clause-serves
unfolding keep_machine
returns-in_err-stack-clause-serves g c = serves_exit _ _ c.in_err-stack.ensures.serves c.from_residual.ensures.1

pub returns-then-cpu-clause-serves : goal.returns-then-cpu-clause-serves
unfolding keep_machine
returns-then-cpu-clause-serves g c =
    serves_then _ c.in_ok-stack.ensures.serves (numbers_then _ (true_then _ _ (λ told. c.if-cpu.true) (done_serves c.in_ok-stack.ensures.fit.ready)))

pub returns-clause-serves : goal.returns-clause-serves
unfolding keep_machine
returns-clause-serves g c =
    serves_then _ c.in_ok-stack.ensures.serves (numbers_then _ (false_fails _ _ c.in_ok-stack.ensures.fit.ready (λ told. c.if-cpu.false)))

pub returns-then-cpu-clause-keeps : goal.returns-then-cpu-clause-keeps
returns-then-cpu-clause-keeps g c = λ k. c.if-cpu.true

pub returns-clause-keeps : goal.returns-clause-keeps
returns-clause-keeps g c = λ k. shut _ k
