use Rattle.std.proofs.Common.{◌∙◌, refl}
use Rattle.contexts.proofs.ServesLaws.{exits}
use Rattle.contexts.proofs.TrialLaws.{found_then, none_found, finding_exit}
use Rattle.prims_object.proofs.TestLaws.{unequal}
use Rattle.prims_object.proofs.endings.store_character_and_answer.Goals as goal

pub returns-in_err-text_at-clause-serves : goal.returns-in_err-text_at-clause-serves
returns-in_err-text_at-clause-serves g c = finding_exit _ _ (c.in_err-text_at.ensures.serves _) c.from_residual.ensures.1

pub returns-in_default-clause-serves : goal.returns-in_default-clause-serves
returns-in_default-clause-serves g c = none_found _ c.in_default.is (c.in_ok-text_at.ensures.serves _)

pub returns-in_err-store_character-clause-serves : goal.returns-in_err-store_character-clause-serves
returns-in_err-store_character-clause-serves g c =
    let still = c.in_ok-text_at.ensures.looks.regs 10 refl in
    let value = c.in_ok-text_at.ensures.looks.regs 12 refl in
    found_then _ c.in-Some.is (c.in_ok-text_at.ensures.serves _)
    (exits _ c.from_residual-in_err-store_character.ensures.1 ((rw (still, value) at c.in_err-store_character.ensures.leads _) _))

pub returns-then-not-branch-clause-serves : goal.returns-then-not-branch-clause-serves
returns-then-not-branch-clause-serves g c =
    let still = c.in_ok-text_at.ensures.looks.regs 10 refl in
    let value = c.in_ok-text_at.ensures.looks.regs 12 refl in
    found_then _ c.in-Some.is (c.in_ok-text_at.ensures.serves _)
    ((rw (c.if-not-branch.true, still, value) at c.in_ok-store_character.ensures.leads _) _)

pub returns-clause-serves : goal.returns-clause-serves
returns-clause-serves g c =
    let still = c.in_ok-text_at.ensures.looks.regs 10 refl in
    let value = c.in_ok-text_at.ensures.looks.regs 12 refl in
    let stored = c.in_ok-store_character.ensures.regs 12 (unequal 12 18 refl) (unequal 12 19 refl) ∙ value in
    found_then _ c.in-Some.is (c.in_ok-text_at.ensures.serves _)
    ((rw (c.if-not-branch.false, still, value) at c.in_ok-store_character.ensures.leads _) _ _ _ _ (rw stored at c.answer.ensures.serves))
