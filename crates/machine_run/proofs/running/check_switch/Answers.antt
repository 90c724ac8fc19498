use Rattle.blue_model.specs.Processes.{check_switch}
use Rattle.contexts.proofs.ServesLaws.{exits}
use Rattle.contexts.proofs.Steps.{numbers_then, pick_true, pick_false, done_serves}
use Rattle.machine_run.proofs.running.check_switch.Goals as goal

pub returns-in_err-switch-clause-serves : goal.returns-in_err-switch-clause-serves
unfolding check_switch
returns-in_err-switch-clause-serves g c = numbers_then _ (pick_true _ _ _ c.if-cpu.true (exits _ c.from_residual.ensures.1 c.in_err-switch.ensures.serves))

pub returns-in_ok-switch-clause-serves : goal.returns-in_ok-switch-clause-serves
unfolding check_switch
returns-in_ok-switch-clause-serves g c = numbers_then _ (pick_true _ _ _ c.if-cpu.true c.in_ok-switch.ensures.serves)

pub returns-else-cpu-clause-serves : goal.returns-else-cpu-clause-serves
unfolding check_switch
returns-else-cpu-clause-serves g c = numbers_then _ (pick_false _ _ _ c.if-cpu.false (done_serves c.requires.fit.ready))
