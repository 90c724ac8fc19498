use Rattle.purger.proofs.NamingLaws.{brought-sound, quiet-sound, within-counts}
use Rattle.purger.proofs.laws.bodies_leave_counts.Goals as goal

pub returns-clause-comes : goal.returns-clause-comes
returns-clause-comes c = brought-sound

pub returns-clause-goes : goal.returns-clause-goes
returns-clause-goes c = λ t d s owed x core stays same within. quiet-sound t d owed x core stays (within-counts t.core d s same within)
