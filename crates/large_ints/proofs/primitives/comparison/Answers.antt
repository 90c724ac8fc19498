use mir.Syntax.{w128}
use Rattle.std.specs.Int.RustNames.{FitsSigned}
use Rattle.std.proofs.lemmas.Int.{to_z-of_z}
use Rattle.blue_model.specs.LargeInts.{of_large, large_comparison}
use Rattle.contexts.proofs.ServesLaws.{serves_then, serves_exit, exits}
use Rattle.large_ints.proofs.OperandLaws.{two_then, two_fail, two_fit}
use Rattle.large_ints.proofs.primitives.comparison.Goals as goal

pub returns-in_err-a-clause-serves : goal.returns-in_err-a-clause-serves
unfolding large_comparison
returns-in_err-a-clause-serves g c = exits _ c.from_residual.ensures.1 (c.in_err-a.ensures.finds _)

pub returns-in_default-clause-serves : goal.returns-in_default-clause-serves
unfolding large_comparison
returns-in_default-clause-serves g c = two_fail of_large _ c.in_default.is c.in_ok-a.ensures.finds

pub returns-in_err-boolean-clause-serves : goal.returns-in_err-boolean-clause-serves
unfolding large_comparison
returns-in_err-boolean-clause-serves g c =
    let fit = two_fit (FitsSigned w128) (FitsSigned w128) _ _ _ c.in-Some.is c.in_ok-a.ensures.range in
    let holds = rw (to_z-of_z w128 _ fit.0, to_z-of_z w128 _ fit.1) at c.holds-holds.ensures in
    two_then of_large _ _ _ c.in-Some.is c.in_ok-a.ensures.finds (serves_exit _ _ (rw holds at c.in_err-boolean.ensures.serves _) c.from_residual-in_err-boolean.ensures.1)

pub returns-clause-serves : goal.returns-clause-serves
unfolding large_comparison
returns-clause-serves g c =
    let fit = two_fit (FitsSigned w128) (FitsSigned w128) _ _ _ c.in-Some.is c.in_ok-a.ensures.range in
    let holds = rw (to_z-of_z w128 _ fit.0, to_z-of_z w128 _ fit.1) at c.holds-holds.ensures in
    two_then of_large _ _ _ c.in-Some.is c.in_ok-a.ensures.finds (serves_then _ (rw holds at c.in_ok-boolean.ensures.serves _) c.answer.ensures.serves)
