use Rattle.std.proofs.Common.{refl}
use Rattle.blue_model.specs.Storage.{instance_variable_at}
use Rattle.contexts.proofs.ServesLaws.{serves_then, serves_exit, exits}
use Rattle.prims_object.proofs.instances.instance_variable_at.Goals as goal

pub returns-in_err-one_argument-clause-serves : goal.returns-in_err-one_argument-clause-serves
unfolding instance_variable_at
returns-in_err-one_argument-clause-serves g c =
    exits _ c.from_residual.ensures.1 (c.in_err-one_argument.ensures.leads _)

pub returns-in_err-spot-clause-serves : goal.returns-in_err-spot-clause-serves
unfolding instance_variable_at
returns-in_err-spot-clause-serves g c =
    c.in_ok-one_argument.ensures.leads _ _ _ _
    (exits _ c.from_residual-in_err-spot.ensures.1 (c.in_err-spot.ensures.leads _ _))

pub returns-in_default-clause-serves : goal.returns-in_default-clause-serves
unfolding instance_variable_at
returns-in_default-clause-serves g c =
    c.in_ok-one_argument.ensures.leads _ _ _ _
    ((rw c.in_default.is at c.in_ok-spot.ensures.leads _) _)

pub returns-in_err-element_at-clause-serves : goal.returns-in_err-element_at-clause-serves
unfolding instance_variable_at
returns-in_err-element_at-clause-serves g c =
    let receiver = c.in_ok-spot.ensures.looks.regs 10 refl in
    c.in_ok-one_argument.ensures.leads _ _ _ _
    ((rw c.in-Some.is at c.in_ok-spot.ensures.leads _) _ _ _ _
    (serves_exit _ _ (rw receiver at c.in_err-element_at.ensures.serves _) c.from_residual-in_err-element_at.ensures.1))

pub returns-clause-serves : goal.returns-clause-serves
unfolding instance_variable_at
returns-clause-serves g c =
    let receiver = c.in_ok-spot.ensures.looks.regs 10 refl in
    c.in_ok-one_argument.ensures.leads _ _ _ _
    ((rw c.in-Some.is at c.in_ok-spot.ensures.leads _) _ _ _ _
    (serves_then _ (rw receiver at c.in_ok-element_at.ensures.serves _) c.answer.ensures.serves))
