use Rattle.std.proofs.Common.{refl, ◌∙◌}
use Rattle.blue_model.specs.Sends.{send}
use Rattle.contexts.proofs.ServesLaws.{serves_then, serves_exit}
use Rattle.bytecodes.proofs.sends.send.Goals as goal

pub returns-in_err-stack-clause-serves : goal.returns-in_err-stack-clause-serves
unfolding send
returns-in_err-stack-clause-serves g c = serves_exit _ _ (rw c.from.ensures at c.in_err-stack.ensures.serves) c.from_residual.ensures.1

pub returns-in_err-class_of-clause-serves : goal.returns-in_err-class_of-clause-serves
unfolding send
returns-in_err-class_of-clause-serves g c =
    serves_then _ (rw c.from.ensures at c.in_ok-stack.ensures.serves) (serves_exit _ _ (c.in_err-class_of.ensures.serves _) c.from_residual-in_err-class_of.ensures.1)

pub returns-clause-serves : goal.returns-clause-serves
unfolding send
returns-clause-serves g c =
    let selector = c.in_ok-class_of.ensures.looks.regs 10 refl ∙ c.in_ok-stack.ensures.looks.regs 10 refl in
    serves_then _ (rw c.from.ensures at c.in_ok-stack.ensures.serves)
    (serves_then _ (c.in_ok-class_of.ensures.serves _) (rw selector at c.send_from.ensures.serves))
