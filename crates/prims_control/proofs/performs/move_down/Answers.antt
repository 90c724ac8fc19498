use Rattle.blue_model.specs.Control.{move_down}
use Rattle.contexts.proofs.ServesLaws.{serves_then, serves_exit, exits}
use Rattle.prims_control.proofs.performs.move_down.Goals as goal

pub returns-in_err-stack-clause-serves : goal.returns-in_err-stack-clause-serves
unfolding move_down
returns-in_err-stack-clause-serves g c = serves_exit _ _ c.in_err-stack.ensures.serves c.from_residual.ensures.1

pub returns-in_err-put_stack-clause-serves : goal.returns-in_err-put_stack-clause-serves
unfolding move_down
returns-in_err-put_stack-clause-serves g c = serves_then _ c.in_ok-stack.ensures.serves
    (exits _ c.from_residual-in_err-put_stack.ensures.1 (c.in_err-put_stack.ensures.serves))

pub returns-clause-serves : goal.returns-clause-serves
unfolding move_down
returns-clause-serves g c = serves_then _ c.in_ok-stack.ensures.serves (c.in_ok-put_stack.ensures.serves)
