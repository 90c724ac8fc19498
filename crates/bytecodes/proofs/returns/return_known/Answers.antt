use Rattle.blue_model.specs.Bytecodes.{return_of}
use Rattle.contexts.proofs.ServesLaws.{serves_then, serves_exit}
use Rattle.bytecodes.proofs.returns.return_known.Goals as goal

pub returns-in_err-known-clause-serves : goal.returns-in_err-known-clause-serves
unfolding return_of
returns-in_err-known-clause-serves g c = serves_exit _ _ (c.in_err-known.ensures.serves _) c.from_residual.ensures.1

pub returns-clause-serves : goal.returns-clause-serves
unfolding return_of
returns-clause-serves g c = serves_then _ (c.in_ok-known.ensures.serves _) c.return_home.ensures.serves
