use Rattle.std.proofs.Common.{refl}
use Rattle.blue_model.specs.LargeInts.{large_value}
use Rattle.blue_model.proofs.laws.worked_large_integers.Goals as goal

pub returns-clause-zeros : goal.returns-clause-zeros
unfolding large_value
returns-clause-zeros c = refl

pub returns-clause-too_long : goal.returns-clause-too_long
unfolding large_value
returns-clause-too_long c = refl
