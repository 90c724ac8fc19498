use Rattle.std.proofs.Common.{refl, sym}
use Rattle.blue_model.specs.Primitives.{then_next}
use Rattle.blue_model.specs.Sends.{return_to}
use Rattle.contexts.proofs.ServesLaws.{serves_then, serves_exit}
use Rattle.contexts.proofs.Steps.{pick_true, pick_false, done_serves}
use Rattle.bytecodes.proofs.KeepLaws.{goes_next}
use Rattle.bytecodes.proofs.returns.return_to.Goals as goal

pub returns-then-is-clause-serves : goal.returns-then-is-clause-serves
unfolding return_to then_next
returns-then-is-clause-serves g c = pick_true _ _ _ (sym c.if-is.ensures) c.cannot_return.ensures.serves

pub returns-in_err-field-clause-serves : goal.returns-in_err-field-clause-serves
unfolding return_to then_next
returns-in_err-field-clause-serves g c = pick_false _ _ _ (sym c.if-is.ensures) (serves_exit _ _ (c.in_err-field.ensures.serves _) c.from_residual.ensures.1)

pub returns-then-is-2-clause-serves : goal.returns-then-is-2-clause-serves
unfolding return_to then_next
returns-then-is-2-clause-serves g c =
    let value = c.in_ok-field.ensures.looks.regs 10 refl in
    pick_false _ _ _ (sym c.if-is.ensures) (serves_then _ (c.in_ok-field.ensures.serves _) (pick_true _ _ _ (sym c.if-is-2.ensures) (rw value at c.cannot_return-then-is-2.ensures.serves)))

pub returns-in_err-back_with-clause-serves : goal.returns-in_err-back_with-clause-serves
unfolding return_to then_next
returns-in_err-back_with-clause-serves g c =
    let value = c.in_ok-field.ensures.looks.regs 10 refl in
    let context = c.in_ok-field.ensures.looks.regs 11 refl in
    pick_false _ _ _ (sym c.if-is.ensures) (serves_then _ (c.in_ok-field.ensures.serves _)
    (pick_false _ _ _ (sym c.if-is-2.ensures) (serves_exit _ _ (rw (value, context) at c.in_err-back_with.ensures.serves) c.from_residual-in_err-back_with.ensures.1)))

pub returns-clause-serves : goal.returns-clause-serves
unfolding return_to then_next
returns-clause-serves g c =
    let value = c.in_ok-field.ensures.looks.regs 10 refl in
    let context = c.in_ok-field.ensures.looks.regs 11 refl in
    pick_false _ _ _ (sym c.if-is.ensures) (serves_then _ (c.in_ok-field.ensures.serves _)
    (pick_false _ _ _ (sym c.if-is-2.ensures) (serves_then _ (rw (value, context) at c.in_ok-back_with.ensures.serves) (done_serves c.in_ok-back_with.ensures.fit.ready))))

pub returns-clause-keeps : goal.returns-clause-keeps
returns-clause-keeps g c = goes_next
