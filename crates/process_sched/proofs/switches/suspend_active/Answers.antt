use Rattle.blue_model.specs.Processes.{suspend_active}
use Rattle.contexts.proofs.ServesLaws.{serves_then, serves_exit}
use Rattle.process_sched.proofs.switches.suspend_active.Goals as goal

pub returns-in_err-wake-clause-serves : goal.returns-in_err-wake-clause-serves
unfolding suspend_active
returns-in_err-wake-clause-serves g c = serves_exit _ _ (c.in_err-wake.ensures.serves _) c.from_residual.ensures.1

pub returns-clause-serves : goal.returns-clause-serves
unfolding suspend_active
returns-clause-serves g c = serves_then _ (c.in_ok-wake.ensures.serves _) c.transfer.ensures.serves
