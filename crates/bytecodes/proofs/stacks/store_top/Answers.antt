use Rattle.blue_model.specs.Bytecodes.{store_top}
use Rattle.contexts.proofs.ServesLaws.{serves_then, serves_exit, exits}
use Rattle.bytecodes.proofs.stacks.store_top.Goals as goal

pub returns-in_err-stack-clause-serves : goal.returns-in_err-stack-clause-serves
unfolding store_top
returns-in_err-stack-clause-serves g c = serves_exit _ _ c.in_err-stack.ensures.serves c.from_residual.ensures.1

pub returns-in_err-store_variable-clause-serves : goal.returns-in_err-store_variable-clause-serves
unfolding store_top
returns-in_err-store_variable-clause-serves g c = serves_then _ c.in_ok-stack.ensures.serves (exits _ c.from_residual-in_err-store_variable.ensures.1 (c.in_err-store_variable.ensures.serves _))

pub returns-clause-serves : goal.returns-clause-serves
unfolding store_top
returns-clause-serves g c = serves_then _ c.in_ok-stack.ensures.serves (c.in_ok-store_variable.ensures.serves _)
