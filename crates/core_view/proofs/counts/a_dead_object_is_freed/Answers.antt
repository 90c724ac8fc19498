use Rattle.core_view.proofs.FreeLaws.{removed-sound, removed-heap, removed-thinner}
use Rattle.core_view.proofs.counts.a_dead_object_is_freed.Goals as goal

pub returns-clause-sound : goal.returns-clause-sound
returns-clause-sound c = removed-sound

pub returns-clause-heap : goal.returns-clause-heap
returns-clause-heap c = removed-heap

pub returns-clause-thinner : goal.returns-clause-thinner
returns-clause-thinner c = removed-thinner
