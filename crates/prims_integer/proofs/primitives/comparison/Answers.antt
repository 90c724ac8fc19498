use Rattle.object_memory.proofs.ShapeLaws.{small_number}
use Rattle.blue_model.specs.Arithmetic.{comparison}
use Rattle.contexts.proofs.ServesLaws.{serves_then, serves_exit}
use Rattle.prims_integer.proofs.OperandLaws.{both_then, not_both, both_exit, both_small}
use Rattle.prims_integer.proofs.primitives.comparison.Goals as goal

pub returns-in_err-a-clause-serves : goal.returns-in_err-a-clause-serves
unfolding comparison
returns-in_err-a-clause-serves g c = both_exit _ _ c.in_err-a.ensures.serves c.from_residual.ensures.1

pub returns-in_default-clause-serves : goal.returns-in_default-clause-serves
unfolding comparison
returns-in_default-clause-serves g c = not_both _ c.in_default.is c.in_ok-a.ensures.serves

pub returns-in_err-boolean-clause-serves : goal.returns-in_err-boolean-clause-serves
unfolding comparison
returns-in_err-boolean-clause-serves g c =
    let small = both_small _ _ _ c.in-Some.is c.in_ok-a.ensures.range in
    let holds = rw (small_number _ small.0, small_number _ small.1) at c.holds-holds.ensures in
    both_then _ _ _ c.in-Some.is c.in_ok-a.ensures.serves (serves_exit _ _ (rw holds at c.in_err-boolean.ensures.serves _) c.from_residual-in_err-boolean.ensures.1)

pub returns-clause-serves : goal.returns-clause-serves
unfolding comparison
returns-clause-serves g c =
    let small = both_small _ _ _ c.in-Some.is c.in_ok-a.ensures.range in
    let holds = rw (small_number _ small.0, small_number _ small.1) at c.holds-holds.ensures in
    both_then _ _ _ c.in-Some.is c.in_ok-a.ensures.serves (serves_then _ (rw holds at c.in_ok-boolean.ensures.serves _) c.answer.ensures.serves)
