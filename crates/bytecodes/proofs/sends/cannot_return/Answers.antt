use Rattle.std.proofs.Common.{refl}
use Rattle.blue_model.specs.Sends.{cannot_return}
use Rattle.contexts.proofs.ServesLaws.{serves_then, serves_exit}
use Rattle.contexts.proofs.Steps.{register_then}
use Rattle.bytecodes.proofs.KeepLaws.{keeps_after}
use Rattle.bytecodes.proofs.sends.cannot_return.Goals as goal

pub returns-in_err-push-clause-serves : goal.returns-in_err-push-clause-serves
unfolding cannot_return
returns-in_err-push-clause-serves g c = register_then _ _ refl (serves_exit _ _ c.in_err-push.ensures.serves c.from_residual.ensures.1)

pub returns-in_err-push-2-clause-serves : goal.returns-in_err-push-2-clause-serves
unfolding cannot_return
returns-in_err-push-2-clause-serves g c =
    register_then _ _ refl (serves_then _ c.in_ok-push.ensures.serves
    (serves_exit _ _ (rw c.in_ok-push.ensures.regs at c.in_err-push-2.ensures.serves) c.from_residual-in_err-push-2.ensures.1))

pub returns-in_err-known-clause-serves : goal.returns-in_err-known-clause-serves
unfolding cannot_return
returns-in_err-known-clause-serves g c =
    register_then _ _ refl (serves_then _ c.in_ok-push.ensures.serves
    (serves_then _ (rw c.in_ok-push.ensures.regs at c.in_ok-push-2.ensures.serves)
    (serves_exit _ _ (c.in_err-known.ensures.serves _) c.from_residual-in_err-known.ensures.1)))

pub returns-clause-serves : goal.returns-clause-serves
unfolding cannot_return
returns-clause-serves g c =
    register_then _ _ refl (serves_then _ c.in_ok-push.ensures.serves
    (serves_then _ (rw c.in_ok-push.ensures.regs at c.in_ok-push-2.ensures.serves)
    (serves_then _ (c.in_ok-known.ensures.serves _)
    c.send.ensures.serves)))

pub returns-clause-keeps : goal.returns-clause-keeps
returns-clause-keeps g c = keeps_after _ _ _ (λ may. c.in_ok-push.ensures.serves.vault (c.in_ok-push-2.ensures.serves.vault may)) c.send.ensures.keeps
