use Rattle.image_memory.proofs.EndLaws.{ended-exact, ended-heap, ended-holds}
use Rattle.image_memory.proofs.laws.what_is_kept_can_be_saved.Goals as goal

pub returns-clause-holds : goal.returns-clause-holds
returns-clause-holds g c = ended-holds g.H.Host

pub returns-clause-exact : goal.returns-clause-exact
returns-clause-exact g c = ended-exact g.H.Host

pub returns-clause-heap : goal.returns-clause-heap
returns-clause-heap g c = ended-heap g.H.Host
