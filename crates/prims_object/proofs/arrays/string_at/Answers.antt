use Rattle.std.proofs.Common.{refl}
use Rattle.blue_model.specs.Storage.{string_at}
use Rattle.contexts.proofs.ServesLaws.{exits}
use Rattle.contexts.proofs.TrialLaws.{found_then, none_found, finding_exit}
use Rattle.prims_object.proofs.arrays.string_at.Goals as goal

pub returns-in_err-one_argument-clause-serves : goal.returns-in_err-one_argument-clause-serves
unfolding string_at
returns-in_err-one_argument-clause-serves g c =
    exits _ c.from_residual.ensures.1 (c.in_err-one_argument.ensures.leads _)

pub returns-in_err-spot-clause-serves : goal.returns-in_err-spot-clause-serves
unfolding string_at
returns-in_err-spot-clause-serves g c =
    c.in_ok-one_argument.ensures.leads _ _ _ _
    (exits _ c.from_residual-in_err-spot.ensures.1 (c.in_err-spot.ensures.leads _ _))

pub returns-in_default-clause-serves : goal.returns-in_default-clause-serves
unfolding string_at
returns-in_default-clause-serves g c =
    c.in_ok-one_argument.ensures.leads _ _ _ _
    ((rw c.in_default.is at c.in_ok-spot.ensures.leads _) _)

pub returns-in_err-byte-clause-serves : goal.returns-in_err-byte-clause-serves
unfolding string_at
returns-in_err-byte-clause-serves g c =
    let receiver = c.in_ok-spot.ensures.looks.regs 10 refl in
    c.in_ok-one_argument.ensures.leads _ _ _ _
    ((rw c.in-Some.is at c.in_ok-spot.ensures.leads _) _ _ _ _
    (finding_exit _ _ (rw receiver at c.in_err-byte.ensures.serves _) c.from_residual-in_err-byte.ensures.1))

pub returns-in_default-2-clause-serves : goal.returns-in_default-2-clause-serves
unfolding string_at
returns-in_default-2-clause-serves g c =
    let receiver = c.in_ok-spot.ensures.looks.regs 10 refl in
    c.in_ok-one_argument.ensures.leads _ _ _ _
    ((rw c.in-Some.is at c.in_ok-spot.ensures.leads _) _ _ _ _
    (none_found _ c.in_default-2.is (rw receiver at c.in_ok-byte.ensures.serves _)))

pub returns-in_err-character_of-clause-serves : goal.returns-in_err-character_of-clause-serves
unfolding string_at
returns-in_err-character_of-clause-serves g c =
    let receiver = c.in_ok-spot.ensures.looks.regs 10 refl in
    c.in_ok-one_argument.ensures.leads _ _ _ _
    ((rw c.in-Some.is at c.in_ok-spot.ensures.leads _) _ _ _ _
    (found_then _ c.in-Some-2.is (rw receiver at c.in_ok-byte.ensures.serves _)
    (finding_exit _ _ (c.in_err-character_of.ensures.serves _) c.from_residual-in_err-character_of.ensures.1)))

pub returns-then-not-branch-clause-serves : goal.returns-then-not-branch-clause-serves
unfolding string_at
returns-then-not-branch-clause-serves g c =
    let receiver = c.in_ok-spot.ensures.looks.regs 10 refl in
    c.in_ok-one_argument.ensures.leads _ _ _ _
    ((rw c.in-Some.is at c.in_ok-spot.ensures.leads _) _ _ _ _
    (found_then _ c.in-Some-2.is (rw receiver at c.in_ok-byte.ensures.serves _)
    (none_found _ refl (rw c.if-not-branch.true at c.in_ok-character_of.ensures.serves _))))

pub returns-clause-serves : goal.returns-clause-serves
unfolding string_at
returns-clause-serves g c =
    let receiver = c.in_ok-spot.ensures.looks.regs 10 refl in
    c.in_ok-one_argument.ensures.leads _ _ _ _
    ((rw c.in-Some.is at c.in_ok-spot.ensures.leads _) _ _ _ _
    (found_then _ c.in-Some-2.is (rw receiver at c.in_ok-byte.ensures.serves _)
    (found_then _ refl (rw c.if-not-branch.false at c.in_ok-character_of.ensures.serves _) c.answer.ensures.serves)))
