use Rattle.std.proofs.Common.{refl}
use Rattle.blue_model.specs.Control.{pass_argument}
use Rattle.contexts.proofs.ServesLaws.{serves_then, serves_exit, exits}
use Rattle.prims_control.proofs.values.pass_argument.Goals as goal

pub returns-in_err-stack-clause-serves : goal.returns-in_err-stack-clause-serves
unfolding pass_argument
returns-in_err-stack-clause-serves g c = serves_exit _ _ c.in_err-stack.ensures.serves c.from_residual.ensures.1

pub returns-in_err-store_field-clause-serves : goal.returns-in_err-store_field-clause-serves
unfolding pass_argument
returns-in_err-store_field-clause-serves g c =
    let block = c.in_ok-stack.ensures.looks.regs 10 refl in
    serves_then _ c.in_ok-stack.ensures.serves
    (exits _ c.from_residual-in_err-store_field.ensures.1 (rw block at c.in_err-store_field.ensures.serves _))

pub returns-clause-serves : goal.returns-clause-serves
unfolding pass_argument
returns-clause-serves g c =
    let block = c.in_ok-stack.ensures.looks.regs 10 refl in
    serves_then _ c.in_ok-stack.ensures.serves (rw block at c.in_ok-store_field.ensures.serves _)
