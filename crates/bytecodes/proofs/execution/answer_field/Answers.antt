use Rattle.blue_model.specs.Sends.{answer_field}
use Rattle.contexts.proofs.ServesLaws.{serves_then, serves_exit, exits}
use Rattle.contexts.proofs.Steps.{numbers_then}
use Rattle.bytecodes.proofs.execution.answer_field.Goals as goal

pub returns-in_err-stack-clause-serves : goal.returns-in_err-stack-clause-serves
unfolding answer_field
returns-in_err-stack-clause-serves g c = numbers_then _ (serves_exit _ _ (rw c.from-depth.ensures at c.in_err-stack.ensures.serves) c.from_residual.ensures.1)

pub returns-in_err-field-clause-serves : goal.returns-in_err-field-clause-serves
unfolding answer_field
returns-in_err-field-clause-serves g c =
    numbers_then _ (serves_then _ (rw c.from-depth.ensures at c.in_ok-stack.ensures.serves)
    (serves_exit _ _ (c.in_err-field.ensures.serves _) c.from_residual-in_err-field.ensures.1))

pub returns-in_err-put_stack-clause-serves : goal.returns-in_err-put_stack-clause-serves
unfolding answer_field
returns-in_err-put_stack-clause-serves g c =
    numbers_then _ (serves_then _ (rw c.from-depth.ensures at c.in_ok-stack.ensures.serves)
    (serves_then _ (c.in_ok-field.ensures.serves _)
    (exits _ c.from_residual-in_err-put_stack.ensures.1 (rw c.from-depth.ensures at c.in_err-put_stack.ensures.serves))))

pub returns-clause-serves : goal.returns-clause-serves
unfolding answer_field
returns-clause-serves g c =
    numbers_then _ (serves_then _ (rw c.from-depth.ensures at c.in_ok-stack.ensures.serves)
    (serves_then _ (c.in_ok-field.ensures.serves _) (rw c.from-depth.ensures at c.in_ok-put_stack.ensures.serves)))
