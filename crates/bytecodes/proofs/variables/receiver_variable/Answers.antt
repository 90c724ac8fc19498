use Rattle.std.proofs.Common.{refl}
use Rattle.blue_model.specs.Bytecodes.{receiver_variable}
use Rattle.contexts.proofs.ReadLaws.{exits_with}
use Rattle.contexts.proofs.Steps.{register_then}
use Rattle.bytecodes.proofs.variables.receiver_variable.Goals as goal

pub returns-in_err-field-clause-serves : goal.returns-in_err-field-clause-serves
unfolding receiver_variable
returns-in_err-field-clause-serves g c = λ cpu. exits_with _ _ c.from_residual.ensures.1 (register_then _ _ refl (c.in_err-field.ensures.serves cpu))

pub returns-clause-serves : goal.returns-clause-serves
unfolding receiver_variable
returns-clause-serves g c = λ cpu. register_then _ _ refl (c.in_ok-field.ensures.serves cpu)
