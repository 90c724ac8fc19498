use Rattle.core_view.proofs.ChangeLaws.{folded-sound, folded-heap}
use Rattle.core_view.proofs.counts.a_change_is_folded.Goals as goal

pub returns-clause-sound : goal.returns-clause-sound
returns-clause-sound c = folded-sound

pub returns-clause-heap : goal.returns-clause-heap
returns-clause-heap c = folded-heap
