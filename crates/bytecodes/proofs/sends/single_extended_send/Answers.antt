use Rattle.blue_model.specs.Bytecodes.{single_extended}
use Rattle.contexts.proofs.ServesLaws.{serves_then, serves_exit}
use Rattle.bytecodes.proofs.KeepLaws.{keeps_after}
use Rattle.bytecodes.proofs.sends.single_extended_send.Goals as goal

pub returns-in_err-byte-clause-serves : goal.returns-in_err-byte-clause-serves
unfolding single_extended
returns-in_err-byte-clause-serves g c = serves_exit _ _ c.in_err-byte.ensures.serves c.from_residual.ensures.1

pub returns-clause-serves : goal.returns-clause-serves
unfolding single_extended
returns-clause-serves g c = serves_then _ c.in_ok-byte.ensures.serves (rw c.from.ensures at c.send_literal.ensures.serves)

pub returns-clause-keeps : goal.returns-clause-keeps
returns-clause-keeps g c = keeps_after _ _ _ c.in_ok-byte.ensures.serves.vault c.send_literal.ensures.keeps
