use Rattle.blue_model.specs.Control.{push_element}
use Rattle.contexts.proofs.ServesLaws.{serves_then, serves_exit, exits}
use Rattle.prims_control.proofs.performs.push_element.Goals as goal

pub returns-in_err-field-clause-serves : goal.returns-in_err-field-clause-serves
unfolding push_element
returns-in_err-field-clause-serves g c = serves_exit _ _ (c.in_err-field.ensures.serves _) c.from_residual.ensures.1

pub returns-in_err-push-clause-serves : goal.returns-in_err-push-clause-serves
unfolding push_element
returns-in_err-push-clause-serves g c = serves_then _ (c.in_ok-field.ensures.serves _)
    (exits _ c.from_residual-in_err-push.ensures.1 (c.in_err-push.ensures.serves))

pub returns-clause-serves : goal.returns-clause-serves
unfolding push_element
returns-clause-serves g c = serves_then _ (c.in_ok-field.ensures.serves _) (c.in_ok-push.ensures.serves)
