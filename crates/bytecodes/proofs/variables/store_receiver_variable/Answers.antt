use Rattle.std.proofs.Common.{refl}
use Rattle.blue_model.specs.Bytecodes.{store_receiver_variable}
use Rattle.contexts.proofs.ServesLaws.{exits}
use Rattle.contexts.proofs.Steps.{register_then}
use Rattle.bytecodes.proofs.variables.store_receiver_variable.Goals as goal

pub returns-in_err-store_field-clause-serves : goal.returns-in_err-store_field-clause-serves
unfolding store_receiver_variable
returns-in_err-store_field-clause-serves g c = λ cpu. exits _ c.from_residual.ensures.1 (register_then _ _ refl (c.in_err-store_field.ensures.serves cpu))

pub returns-clause-serves : goal.returns-clause-serves
unfolding store_receiver_variable
returns-clause-serves g c = λ cpu. register_then _ _ refl (c.in_ok-store_field.ensures.serves cpu)
