use Rattle.std.proofs.Common.{refl}
use Rattle.blue_model.specs.Bytecodes.{push_of, push_active_context}
use Rattle.contexts.proofs.ServesLaws.{exits}
use Rattle.contexts.proofs.Steps.{register_then}
use Rattle.bytecodes.proofs.stacks.push_active_context.Goals as goal

pub returns-in_err-push-clause-serves : goal.returns-in_err-push-clause-serves
unfolding push_of push_active_context
returns-in_err-push-clause-serves g c = register_then _ _ refl (exits _ c.from_residual.ensures.1 c.in_err-push.ensures.serves)

pub returns-clause-serves : goal.returns-clause-serves
unfolding push_of push_active_context
returns-clause-serves g c = register_then _ _ refl c.in_ok-push.ensures.serves
