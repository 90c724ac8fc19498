use Rattle.core_view.proofs.CanLaws.{change-less, change-more, sum-fits, owed-stored}
use Rattle.core_view.proofs.counts.counts_fit_their_numbers.Goals as goal

pub returns-clause-change : goal.returns-clause-change
returns-clause-change c = change-less

pub returns-clause-more : goal.returns-clause-more
returns-clause-more c = change-more

pub returns-clause-sum : goal.returns-clause-sum
returns-clause-sum c = sum-fits

pub returns-clause-stored : goal.returns-clause-stored
returns-clause-stored c = owed-stored
