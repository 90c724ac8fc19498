use Rattle.std.proofs.Common.{refl}
use Rattle.blue_model.specs.Storage.{at_put}
use Rattle.contexts.proofs.ServesLaws.{exits}
use Rattle.prims_object.proofs.arrays.at_put.Goals as goal

pub returns-in_err-two_arguments-clause-serves : goal.returns-in_err-two_arguments-clause-serves
unfolding at_put
returns-in_err-two_arguments-clause-serves g c =
    exits _ c.from_residual.ensures.1 (c.in_err-two_arguments.ensures.leads _)

pub returns-in_err-spot-clause-serves : goal.returns-in_err-spot-clause-serves
unfolding at_put
returns-in_err-spot-clause-serves g c =
    c.in_ok-two_arguments.ensures.leads _ _ _ _
    (exits _ c.from_residual-in_err-spot.ensures.1 (c.in_err-spot.ensures.leads _ _))

pub returns-in_default-clause-serves : goal.returns-in_default-clause-serves
unfolding at_put
returns-in_default-clause-serves g c =
    c.in_ok-two_arguments.ensures.leads _ _ _ _
    ((rw c.in_default.is at c.in_ok-spot.ensures.leads _) _)

pub returns-clause-serves : goal.returns-clause-serves
unfolding at_put
returns-clause-serves g c =
    let receiver = c.in_ok-spot.ensures.looks.regs 10 refl in
    let value = c.in_ok-spot.ensures.looks.regs 12 refl in
    c.in_ok-two_arguments.ensures.leads _ _ _ _
    ((rw c.in-Some.is at c.in_ok-spot.ensures.leads _) _ _ _ _ (rw (receiver, value) at c.store_and_answer.ensures.serves))
