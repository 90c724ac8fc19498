use Rattle.blue_model.specs.Sends.{must_be_boolean}
use Rattle.contexts.proofs.ServesLaws.{serves_then, serves_exit}
use Rattle.bytecodes.proofs.KeepLaws.{keeps_after}
use Rattle.bytecodes.proofs.sends.must_be_boolean.Goals as goal

pub returns-in_err-push-clause-serves : goal.returns-in_err-push-clause-serves
unfolding must_be_boolean
returns-in_err-push-clause-serves g c = serves_exit _ _ c.in_err-push.ensures.serves c.from_residual.ensures.1

pub returns-in_err-known-clause-serves : goal.returns-in_err-known-clause-serves
unfolding must_be_boolean
returns-in_err-known-clause-serves g c = serves_then _ c.in_ok-push.ensures.serves (serves_exit _ _ (c.in_err-known.ensures.serves _) c.from_residual-in_err-known.ensures.1)

pub returns-clause-serves : goal.returns-clause-serves
unfolding must_be_boolean
returns-clause-serves g c = serves_then _ c.in_ok-push.ensures.serves (serves_then _ (c.in_ok-known.ensures.serves _) c.send.ensures.serves)

pub returns-clause-keeps : goal.returns-clause-keeps
returns-clause-keeps g c = keeps_after _ _ _ c.in_ok-push.ensures.serves.vault c.send.ensures.keeps
