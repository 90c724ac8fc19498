use Rattle.object_memory.proofs.ShapeLaws.{small_number}
use Rattle.blue_model.specs.Arithmetic.{point}
use Rattle.contexts.proofs.ServesLaws.{serves_then, serves_exit}
use Rattle.prims_integer.proofs.OperandLaws.{both_then, not_both, both_exit, both_small}
use Rattle.prims_integer.proofs.primitives.point.Goals as goal

pub returns-in_err-x-clause-serves : goal.returns-in_err-x-clause-serves
unfolding point
returns-in_err-x-clause-serves g c = both_exit _ _ c.in_err-x.ensures.serves c.from_residual.ensures.1

pub returns-in_default-clause-serves : goal.returns-in_default-clause-serves
unfolding point
returns-in_default-clause-serves g c = not_both _ c.in_default.is c.in_ok-x.ensures.serves

pub returns-in_err-make_point-clause-serves : goal.returns-in_err-make_point-clause-serves
unfolding point
returns-in_err-make_point-clause-serves g c =
    let small = both_small _ _ _ c.in-Some.is c.in_ok-x.ensures.range in
    both_then _ _ _ c.in-Some.is c.in_ok-x.ensures.serves (serves_exit _ _ (rw (small_number _ small.0, small_number _ small.1) at c.in_err-make_point.ensures.serves _) c.from_residual-in_err-make_point.ensures.1)

pub returns-clause-serves : goal.returns-clause-serves
unfolding point
returns-clause-serves g c =
    let small = both_small _ _ _ c.in-Some.is c.in_ok-x.ensures.range in
    both_then _ _ _ c.in-Some.is c.in_ok-x.ensures.serves (serves_then _ (rw (small_number _ small.0, small_number _ small.1) at c.in_ok-make_point.ensures.serves _) c.answer.ensures.serves)
