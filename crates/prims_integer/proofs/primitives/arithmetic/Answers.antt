use Rattle.std.proofs.Common.{sym, arith}
use Rattle.object_memory.proofs.LooksLaws.{put_value}
use Rattle.object_memory.proofs.ShapeLaws.{small_number}
use Rattle.blue_model.specs.Arithmetic.{arithmetic}
use Rattle.contexts.proofs.Steps.{read_first}
use Rattle.contexts.proofs.RegisterLaws.{int_quiet}
use Rattle.contexts.proofs.TrialLaws.{some_then, none_fails}
use Rattle.prims_integer.proofs.OperandLaws.{both_then, not_both, both_exit, both_small}
use Rattle.prims_integer.proofs.primitives.arithmetic.Goals as goal

pub returns-in_err-a-clause-serves : goal.returns-in_err-a-clause-serves
unfolding arithmetic
returns-in_err-a-clause-serves g c = both_exit _ _ c.in_err-a.ensures.serves c.from_residual.ensures.1

pub returns-in_default-clause-serves : goal.returns-in_default-clause-serves
unfolding arithmetic
returns-in_default-clause-serves g c = not_both _ c.in_default.is c.in_ok-a.ensures.serves

pub returns-in_default-result-clause-serves : goal.returns-in_default-result-clause-serves
unfolding arithmetic
returns-in_default-result-clause-serves g c =
    let small = both_small _ _ _ c.in-Some.is c.in_ok-a.ensures.range in
    both_then _ _ _ c.in-Some.is c.in_ok-a.ensures.serves
    (none_fails _ _ c.in_ok-a.ensures.fit.ready (λ told. sym (rw (small_number _ small.0, small_number _ small.1) at c.in_default-result.ensures.result)))

pub returns-clause-serves : goal.returns-clause-serves
unfolding arithmetic
returns-clause-serves g c =
    let small = both_small _ _ _ c.in-Some.is c.in_ok-a.ensures.range in
    let ready = c.in_ok-a.ensures.fit.ready in
    let number = put_value _ _ 10 _ c.int.ensures.told in
    both_then _ _ _ c.in-Some.is c.in_ok-a.ensures.serves
    (some_then _ _ _ (λ told. sym (rw (small_number _ small.0, small_number _ small.1) at c.in-Some-result.ensures.result))
    (read_first ready (int_quiet _ _ 10 _ (omega arith) ready (c.int.ensures.fit.ready ready) c.int.ensures.told)
    (rw (number, small_number _ c.in-Some-result.ensures.range) at c.answer.ensures.serves)))
