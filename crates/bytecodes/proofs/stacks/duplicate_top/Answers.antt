use Rattle.blue_model.specs.Bytecodes.{push_of, duplicate_top}
use Rattle.contexts.proofs.ServesLaws.{serves_then, serves_exit, exits}
use Rattle.bytecodes.proofs.stacks.duplicate_top.Goals as goal

pub returns-in_err-stack-clause-serves : goal.returns-in_err-stack-clause-serves
unfolding push_of duplicate_top
returns-in_err-stack-clause-serves g c = serves_exit _ _ c.in_err-stack.ensures.serves c.from_residual.ensures.1

pub returns-in_err-push-clause-serves : goal.returns-in_err-push-clause-serves
unfolding push_of duplicate_top
returns-in_err-push-clause-serves g c = serves_then _ c.in_ok-stack.ensures.serves (exits _ c.from_residual-in_err-push.ensures.1 c.in_err-push.ensures.serves)

pub returns-clause-serves : goal.returns-clause-serves
unfolding push_of duplicate_top
returns-clause-serves g c = serves_then _ c.in_ok-stack.ensures.serves c.in_ok-push.ensures.serves
