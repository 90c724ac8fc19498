use Rattle.std.proofs.Common.{refl}
use Rattle.blue_model.specs.Messages.{copy_argument}
use Rattle.contexts.proofs.ServesLaws.{serves_then, serves_exit, exits}
use Rattle.send_lookup.proofs.message.copy_argument.Goals as goal

pub returns-in_err-stack-clause-serves : goal.returns-in_err-stack-clause-serves
unfolding copy_argument
returns-in_err-stack-clause-serves g c = serves_exit _ _ c.in_err-stack.ensures.serves c.from_residual.ensures.1

pub returns-in_err-store_field-clause-serves : goal.returns-in_err-store_field-clause-serves
unfolding copy_argument
returns-in_err-store_field-clause-serves g c =
    let array = c.in_ok-stack.ensures.looks.regs 16 refl in
    serves_then _ c.in_ok-stack.ensures.serves (exits _ c.from_residual-in_err-store_field.ensures.1 (rw array at c.in_err-store_field.ensures.serves _))

pub returns-clause-serves : goal.returns-clause-serves
unfolding copy_argument
returns-clause-serves g c =
    let array = c.in_ok-stack.ensures.looks.regs 16 refl in
    serves_then _ c.in_ok-stack.ensures.serves (rw array at c.in_ok-store_field.ensures.serves _)
