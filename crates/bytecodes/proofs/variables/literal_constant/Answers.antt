use Rattle.std.proofs.Common.{refl}
use Rattle.blue_model.specs.Bytecodes.{literal_constant}
use Rattle.contexts.proofs.ReadLaws.{exits_with}
use Rattle.contexts.proofs.Steps.{register_then}
use Rattle.bytecodes.proofs.variables.literal_constant.Goals as goal

pub returns-in_err-literal-clause-serves : goal.returns-in_err-literal-clause-serves
unfolding literal_constant
returns-in_err-literal-clause-serves g c = λ cpu. exits_with _ _ c.from_residual.ensures.1 (register_then _ _ refl (c.in_err-literal.ensures.serves cpu))

pub returns-clause-serves : goal.returns-clause-serves
unfolding literal_constant
returns-clause-serves g c = λ cpu. register_then _ _ refl (c.in_ok-literal.ensures.serves cpu)
