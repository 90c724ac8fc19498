use Rattle.std.proofs.Common.{is_some, refl, sym, ap, ◌∙◌}
use Rattle.blue_model.specs.Bytecodes.{arithmetic_send}
use Rattle.contexts.proofs.ServesLaws.{serves_then, serves_exit}
use Rattle.contexts.proofs.Steps.{pick_true, pick_false}
use Rattle.bytecodes.proofs.sends.arithmetic_send.Goals as goal

pub returns-in-Some-clause-serves : goal.returns-in-Some-clause-serves
unfolding arithmetic_send
returns-in-Some-clause-serves g c = serves_then _ (c.in-Some.ensures.serves c.requires.fit.ready) (pick_true _ _ _ refl (rw c.arithmetic_primitive.ensures at c.tried_for.ensures.serves))

pub returns-in_err-stack-clause-serves : goal.returns-in_err-stack-clause-serves
unfolding arithmetic_send
returns-in_err-stack-clause-serves g c = serves_exit _ _ c.in_err-stack.ensures.serves c.from_residual.ensures.1

pub returns-then-is_some-clause-serves : goal.returns-then-is_some-clause-serves
unfolding arithmetic_send
returns-then-is_some-clause-serves g c =
    serves_then _ c.in_ok-stack.ensures.serves
    (pick_true _ _ _ (ap is_some (sym c.as_int.ensures.number) ∙ sym c.is_some.ensures ∙ c.if-is_some.true) (rw c.arithmetic_primitive-then-is_some.ensures at c.tried_for-then-is_some.ensures.serves))

pub returns-clause-serves : goal.returns-clause-serves
unfolding arithmetic_send
returns-clause-serves g c = serves_then _ c.in_ok-stack.ensures.serves (pick_false _ _ _ (ap is_some (sym c.as_int.ensures.number) ∙ sym c.is_some.ensures ∙ c.if-is_some.false) c.special_send.ensures.serves)
