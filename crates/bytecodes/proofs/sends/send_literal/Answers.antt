use Rattle.blue_model.specs.Bytecodes.{send_literal}
use Rattle.contexts.proofs.ServesLaws.{serves_then, serves_exit}
use Rattle.bytecodes.proofs.sends.send_literal.Goals as goal

pub returns-in_err-literal_constant-clause-serves : goal.returns-in_err-literal_constant-clause-serves
unfolding send_literal
returns-in_err-literal_constant-clause-serves g c = serves_exit _ _ (c.in_err-literal_constant.ensures.serves _) c.from_residual.ensures.1

pub returns-clause-serves : goal.returns-clause-serves
unfolding send_literal
returns-clause-serves g c = serves_then _ (c.in_ok-literal_constant.ensures.serves _) c.send.ensures.serves
