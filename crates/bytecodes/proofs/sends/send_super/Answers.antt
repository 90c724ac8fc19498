use Rattle.std.proofs.Common.{refl, ◌∙◌}
use Rattle.blue_model.specs.Sends.{send_super}
use Rattle.contexts.proofs.ServesLaws.{serves_then, serves_exit}
use Rattle.contexts.proofs.Steps.{register_then}
use Rattle.bytecodes.proofs.sends.send_super.Goals as goal

pub returns-in_err-stack-clause-serves : goal.returns-in_err-stack-clause-serves
unfolding send_super
returns-in_err-stack-clause-serves g c = serves_exit _ _ (rw c.from.ensures at c.in_err-stack.ensures.serves) c.from_residual.ensures.1

pub returns-in_err-last_literal-clause-serves : goal.returns-in_err-last_literal-clause-serves
unfolding send_super
returns-in_err-last_literal-clause-serves g c =
    serves_then _ (rw c.from.ensures at c.in_ok-stack.ensures.serves)
    (register_then _ _ refl (serves_exit _ _ (c.in_err-last_literal.ensures.serves _) c.from_residual-in_err-last_literal.ensures.1))

pub returns-in_err-field-clause-serves : goal.returns-in_err-field-clause-serves
unfolding send_super
returns-in_err-field-clause-serves g c =
    serves_then _ (rw c.from.ensures at c.in_ok-stack.ensures.serves)
    (register_then _ _ refl (serves_then _ (c.in_ok-last_literal.ensures.serves _)
    (serves_exit _ _ (c.in_err-field.ensures.serves _) c.from_residual-in_err-field.ensures.1)))

pub returns-in_err-field-2-clause-serves : goal.returns-in_err-field-2-clause-serves
unfolding send_super
returns-in_err-field-2-clause-serves g c =
    serves_then _ (rw c.from.ensures at c.in_ok-stack.ensures.serves)
    (register_then _ _ refl (serves_then _ (c.in_ok-last_literal.ensures.serves _)
    (serves_then _ (c.in_ok-field.ensures.serves _)
    (serves_exit _ _ (c.in_err-field-2.ensures.serves _) c.from_residual-in_err-field-2.ensures.1))))

pub returns-clause-serves : goal.returns-clause-serves
unfolding send_super
returns-clause-serves g c =
    let selector = c.in_ok-field-2.ensures.looks.regs 10 refl ∙ c.in_ok-field.ensures.looks.regs 10 refl ∙ c.in_ok-last_literal.ensures.looks.regs 10 refl ∙ c.in_ok-stack.ensures.looks.regs 10 refl in
    serves_then _ (rw c.from.ensures at c.in_ok-stack.ensures.serves)
    (register_then _ _ refl (serves_then _ (c.in_ok-last_literal.ensures.serves _)
    (serves_then _ (c.in_ok-field.ensures.serves _)
    (serves_then _ (c.in_ok-field-2.ensures.serves _)
    (rw selector at c.send_from.ensures.serves)))))
