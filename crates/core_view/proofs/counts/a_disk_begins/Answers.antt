use Rattle.core_view.proofs.BeginLaws.{begun-sound, begun-heap}
use Rattle.core_view.proofs.counts.a_disk_begins.Goals as goal

pub returns-clause-sound : goal.returns-clause-sound
returns-clause-sound c = begun-sound

pub returns-clause-heap : goal.returns-clause-heap
returns-clause-heap c = begun-heap
