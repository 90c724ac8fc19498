use Rattle.std.proofs.Common.{refl}
use Rattle.blue_model.specs.Messages.{set_arguments}
use Rattle.contexts.proofs.Steps.{numbers_then, set_numbers_at}
use Rattle.contexts.proofs.registers.set_arguments.Goals as goal

pub returns-clause-serves : goal.returns-clause-serves
unfolding set_arguments
returns-clause-serves c = λ t ready. numbers_then _ (set_numbers_at _ refl (λ may. may) ready)
