use Rattle.blue_model.specs.Bytecodes.{double_extended}
use Rattle.contexts.proofs.ServesLaws.{serves_then, serves_exit}
use Rattle.bytecodes.proofs.KeepLaws.{keeps_after}
use Rattle.bytecodes.proofs.sends.double_extended_super.Goals as goal

pub returns-in_err-n-clause-serves : goal.returns-in_err-n-clause-serves
unfolding double_extended
returns-in_err-n-clause-serves g c = serves_exit _ _ c.in_err-n.ensures.serves c.from_residual.ensures.1

pub returns-in_err-i-clause-serves : goal.returns-in_err-i-clause-serves
unfolding double_extended
returns-in_err-i-clause-serves g c = serves_then _ c.in_ok-n.ensures.serves (serves_exit _ _ c.in_err-i.ensures.serves c.from_residual-in_err-i.ensures.1)

pub returns-clause-serves : goal.returns-clause-serves
unfolding double_extended
returns-clause-serves g c = serves_then _ c.in_ok-n.ensures.serves (serves_then _ c.in_ok-i.ensures.serves (rw c.from.ensures at c.send_literal_super.ensures.serves))

pub returns-clause-keeps : goal.returns-clause-keeps
returns-clause-keeps g c = keeps_after _ _ _ (λ may. c.in_ok-n.ensures.serves.vault (c.in_ok-i.ensures.serves.vault may)) c.send_literal_super.ensures.keeps
