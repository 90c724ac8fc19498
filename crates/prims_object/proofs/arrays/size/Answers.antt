use Rattle.std.proofs.Common.{refl}
use Rattle.blue_model.specs.Storage.{size_of}
use Rattle.contexts.proofs.ServesLaws.{serves_then, serves_exit}
use Rattle.contexts.proofs.TrialLaws.{found_then, none_found, finding_exit}
use Rattle.prims_object.proofs.arrays.size.Goals as goal

pub returns-in_err-stack-clause-serves : goal.returns-in_err-stack-clause-serves
unfolding size_of
returns-in_err-stack-clause-serves g c = serves_exit _ _ c.in_err-stack.ensures.serves c.from_residual.ensures.1

pub returns-in_err-fixed-clause-serves : goal.returns-in_err-fixed-clause-serves
unfolding size_of
returns-in_err-fixed-clause-serves g c =
    serves_then _ c.in_ok-stack.ensures.serves
    (finding_exit _ _ (c.in_err-fixed.ensures.serves _) c.from_residual-in_err-fixed.ensures.1)

pub returns-in_default-clause-serves : goal.returns-in_default-clause-serves
unfolding size_of
returns-in_default-clause-serves g c =
    serves_then _ c.in_ok-stack.ensures.serves
    (none_found _ c.in_default.is (c.in_ok-fixed.ensures.serves _))

pub returns-in_err-n-clause-serves : goal.returns-in_err-n-clause-serves
unfolding size_of
returns-in_err-n-clause-serves g c =
    let receiver = c.in_ok-fixed.ensures.looks.regs 10 refl in
    serves_then _ c.in_ok-stack.ensures.serves
    (found_then _ c.in-Some.is (c.in_ok-fixed.ensures.serves _)
    (finding_exit _ _ (rw receiver at c.in_err-n.ensures.serves _) c.from_residual-in_err-n.ensures.1))

pub returns-in_default-2-clause-serves : goal.returns-in_default-2-clause-serves
unfolding size_of
returns-in_default-2-clause-serves g c =
    let receiver = c.in_ok-fixed.ensures.looks.regs 10 refl in
    serves_then _ c.in_ok-stack.ensures.serves
    (found_then _ c.in-Some.is (c.in_ok-fixed.ensures.serves _)
    (none_found _ c.in_default-2.is (rw receiver at c.in_ok-n.ensures.serves _)))

pub returns-in_err-number_object-clause-serves : goal.returns-in_err-number_object-clause-serves
unfolding size_of
returns-in_err-number_object-clause-serves g c =
    let receiver = c.in_ok-fixed.ensures.looks.regs 10 refl in
    serves_then _ c.in_ok-stack.ensures.serves
    (found_then _ c.in-Some.is (c.in_ok-fixed.ensures.serves _)
    (found_then _ c.in-Some-2.is (rw receiver at c.in_ok-n.ensures.serves _)
    (serves_exit _ _ (c.in_err-number_object.ensures.serves _) c.from_residual-in_err-number_object.ensures.1)))

pub returns-clause-serves : goal.returns-clause-serves
unfolding size_of
returns-clause-serves g c =
    let receiver = c.in_ok-fixed.ensures.looks.regs 10 refl in
    serves_then _ c.in_ok-stack.ensures.serves
    (found_then _ c.in-Some.is (c.in_ok-fixed.ensures.serves _)
    (found_then _ c.in-Some-2.is (rw receiver at c.in_ok-n.ensures.serves _)
    (serves_then _ (c.in_ok-number_object.ensures.serves _)
    (c.answer.ensures.serves))))
