use Rattle.purger.proofs.NamingLaws.{naming-came, counts-free, within-counts}
use Rattle.purger.proofs.laws.names_come_with_their_use.Goals as goal

pub returns-clause-came : goal.returns-clause-came
returns-clause-came c = naming-came

pub returns-clause-none : goal.returns-clause-none
returns-clause-none c = λ a d s same within. counts-free a d (within-counts a d s same within)
