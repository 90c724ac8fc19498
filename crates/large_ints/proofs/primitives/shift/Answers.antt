use Rattle.std.proofs.Common.{sym}
use mir.Syntax.{w128}
use Rattle.std.specs.Int.RustNames.{FitsSigned}
use Rattle.std.proofs.lemmas.Int.{to_z-of_z}
use Rattle.long_names.specs.Words.{IsSmallInteger}
use Rattle.object_memory.proofs.ShapeLaws.{small_number}
use Rattle.blue_model.specs.Arithmetic.{shifted}
use Rattle.blue_model.specs.LargeInts.{of_shift, answer_result, large_shift}
use Rattle.contexts.proofs.ServesLaws.{exits}
use Rattle.contexts.proofs.TrialLaws.{some_then, none_fails}
use Rattle.large_ints.proofs.AnswerLaws.{result_fits}
use Rattle.large_ints.proofs.OperandLaws.{two_then, two_fail, two_fit}
use Rattle.large_ints.proofs.primitives.shift.Goals as goal

pub returns-in_err-a-clause-serves : goal.returns-in_err-a-clause-serves
unfolding large_shift
returns-in_err-a-clause-serves g c = exits _ c.from_residual.ensures.1 (c.in_err-a.ensures.finds _)

pub returns-in_default-clause-serves : goal.returns-in_default-clause-serves
unfolding large_shift
returns-in_default-clause-serves g c = two_fail of_shift _ c.in_default.is c.in_ok-a.ensures.finds

pub returns-in_default-shifted-clause-serves : goal.returns-in_default-shifted-clause-serves
unfolding large_shift answer_result
returns-in_default-shifted-clause-serves g c =
    let fit = two_fit (FitsSigned w128) IsSmallInteger _ _ _ c.in-Some.is c.in_ok-a.ensures.range in
    two_then of_shift _ _ _ c.in-Some.is c.in_ok-a.ensures.finds
    (none_fails _ _ c.in_ok-a.ensures.fit.ready (λ told. sym (rw (to_z-of_z w128 _ fit.0, small_number _ fit.1) at c.in_default-shifted.ensures)))

pub returns-clause-serves : goal.returns-clause-serves
unfolding large_shift answer_result
returns-clause-serves g c =
    let fit = two_fit (FitsSigned w128) IsSmallInteger _ _ _ c.in-Some.is c.in_ok-a.ensures.range in
    let result = rw (to_z-of_z w128 _ fit.0, small_number _ fit.1) at c.in-Some-shifted.ensures in
    two_then of_shift _ _ _ c.in-Some.is c.in_ok-a.ensures.finds
    (some_then _ _ _ (λ told. sym result)
    (rw (to_z-of_z w128 _ (result_fits shifted c.in-Some.a c.in-Some.places _ result)) at c.answer_number.ensures.serves))
