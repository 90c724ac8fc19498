use Rattle.blue_model.specs.Devices.{due}
use Rattle.contexts.proofs.ServesLaws.{serves_then, serves_exit}
use Rattle.devices.proofs.events.due.Goals as goal

pub returns-in_err-events_due-clause-serves : goal.returns-in_err-events_due-clause-serves
unfolding due
returns-in_err-events_due-clause-serves g c = serves_exit _ _ c.in_err-events_due.ensures.serves c.from_residual.ensures.1

pub returns-clause-serves : goal.returns-clause-serves
unfolding due
returns-clause-serves g c = serves_then _ c.in_ok-events_due.ensures.serves c.check_timer.ensures.serves
