use Rattle.contexts.proofs.ServesLaws.{serves_then, serves_exit}
use Rattle.contexts.proofs.Steps.{done_serves}
use Rattle.bytecodes.proofs.execution.activated.Goals as goal

pub returns-in_err-activate-clause-serves : goal.returns-in_err-activate-clause-serves
returns-in_err-activate-clause-serves g c = serves_exit _ _ c.in_err-activate.ensures.serves c.from_residual.ensures.1

pub returns-clause-serves : goal.returns-clause-serves
returns-clause-serves g c = serves_then _ c.in_ok-activate.ensures.serves (done_serves c.in_ok-activate.ensures.fit.ready)
