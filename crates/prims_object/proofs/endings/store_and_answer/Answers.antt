use Rattle.contexts.proofs.ServesLaws.{exits}
use Rattle.std.proofs.Common.{refl}
use Rattle.prims_object.proofs.TestLaws.{unequal}
use Rattle.prims_object.proofs.endings.store_and_answer.Goals as goal

pub returns-in_err-store_element-clause-serves : goal.returns-in_err-store_element-clause-serves
returns-in_err-store_element-clause-serves g c = exits _ c.from_residual.ensures.1 (c.in_err-store_element.ensures.leads _ _)

pub returns-then-not-branch-clause-serves : goal.returns-then-not-branch-clause-serves
returns-then-not-branch-clause-serves g c = (rw c.if-not-branch.true at c.in_ok-store_element.ensures.leads _) _

pub returns-clause-serves : goal.returns-clause-serves
returns-clause-serves g c =
    let stored = c.in_ok-store_element.ensures.regs 12 (unequal 12 19 refl) in
    (rw c.if-not-branch.false at c.in_ok-store_element.ensures.leads _) _ _ _ _ (rw stored at c.answer.ensures.serves)
