use Rattle.blue_model.specs.Storage.{class}
use Rattle.contexts.proofs.ServesLaws.{serves_then, serves_exit}
use Rattle.prims_object.proofs.names.class.Goals as goal

pub returns-in_err-stack-clause-serves : goal.returns-in_err-stack-clause-serves
unfolding class
returns-in_err-stack-clause-serves g c = serves_exit _ _ c.in_err-stack.ensures.serves c.from_residual.ensures.1

pub returns-in_err-class_of-clause-serves : goal.returns-in_err-class_of-clause-serves
unfolding class
returns-in_err-class_of-clause-serves g c = serves_then _ c.in_ok-stack.ensures.serves (serves_exit _ _ (c.in_err-class_of.ensures.serves _) c.from_residual-in_err-class_of.ensures.1)

pub returns-clause-serves : goal.returns-clause-serves
unfolding class
returns-clause-serves g c = serves_then _ c.in_ok-stack.ensures.serves (serves_then _ (c.in_ok-class_of.ensures.serves _) c.answer.ensures.serves)
