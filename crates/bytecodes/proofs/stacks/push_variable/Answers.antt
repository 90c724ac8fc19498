use Rattle.blue_model.specs.Bytecodes.{push_of}
use Rattle.contexts.proofs.ServesLaws.{serves_then, serves_exit, exits}
use Rattle.bytecodes.proofs.stacks.push_variable.Goals as goal

pub returns-in_err-load_variable-clause-serves : goal.returns-in_err-load_variable-clause-serves
unfolding push_of
returns-in_err-load_variable-clause-serves g c = serves_exit _ _ (c.in_err-load_variable.ensures.serves _) c.from_residual.ensures.1

pub returns-in_err-push-clause-serves : goal.returns-in_err-push-clause-serves
unfolding push_of
returns-in_err-push-clause-serves g c = serves_then _ (c.in_ok-load_variable.ensures.serves _) (exits _ c.from_residual-in_err-push.ensures.1 c.in_err-push.ensures.serves)

pub returns-clause-serves : goal.returns-clause-serves
unfolding push_of
returns-clause-serves g c = serves_then _ (c.in_ok-load_variable.ensures.serves _) c.in_ok-push.ensures.serves
