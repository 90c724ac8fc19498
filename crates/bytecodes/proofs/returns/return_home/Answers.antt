use Rattle.std.proofs.Common.{refl}
use Rattle.blue_model.specs.Bytecodes.{return_home}
use Rattle.contexts.proofs.ServesLaws.{serves_then, serves_exit}
use Rattle.contexts.proofs.Steps.{register_then}
use Rattle.bytecodes.proofs.returns.return_home.Goals as goal

pub returns-in_err-field-clause-serves : goal.returns-in_err-field-clause-serves
unfolding return_home
returns-in_err-field-clause-serves g c = register_then _ _ refl (serves_exit _ _ (c.in_err-field.ensures.serves _) c.from_residual.ensures.1)

pub returns-clause-serves : goal.returns-clause-serves
unfolding return_home
returns-clause-serves g c =
    let value = c.in_ok-field.ensures.looks.regs 10 refl in
    register_then _ _ refl (serves_then _ (c.in_ok-field.ensures.serves _) (rw value at c.return_to.ensures.serves))
