use Rattle.std.proofs.Common.{refl}
use Rattle.blue_model.specs.LargeInts.{large_value}
use Rattle.blue_model.proofs.laws.worked_ends_of_the_range.Goals as goal

pub returns-clause-highest : goal.returns-clause-highest
unfolding large_value
returns-clause-highest c = refl

pub returns-clause-past_the_highest : goal.returns-clause-past_the_highest
unfolding large_value
returns-clause-past_the_highest c = refl

pub returns-clause-lowest : goal.returns-clause-lowest
unfolding large_value
returns-clause-lowest c = refl

pub returns-clause-past_the_lowest : goal.returns-clause-past_the_lowest
unfolding large_value
returns-clause-past_the_lowest c = refl

pub returns-clause-up : goal.returns-clause-up
returns-clause-up c = (refl, refl)

pub returns-clause-down : goal.returns-clause-down
returns-clause-down c = (refl, refl)

pub returns-clause-bytes : goal.returns-clause-bytes
returns-clause-bytes c = (refl, refl)

pub returns-clause-negated : goal.returns-clause-negated
returns-clause-negated c = (refl, refl, refl, refl)
