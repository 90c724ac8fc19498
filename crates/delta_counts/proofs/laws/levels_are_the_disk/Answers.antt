use Rattle.delta_counts.proofs.StoredLaws.{records-at, counts-at}
use Rattle.delta_counts.proofs.laws.levels_are_the_disk.Goals as goal

pub returns-clause-records : goal.returns-clause-records
returns-clause-records c = records-at

pub returns-clause-counts : goal.returns-clause-counts
returns-clause-counts c = counts-at
