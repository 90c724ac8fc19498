use Rattle.core_view.proofs.ChangeLaws.{lowered-sound, lowered-heap}
use Rattle.core_view.proofs.counts.a_word_is_lowered.Goals as goal

pub returns-clause-sound : goal.returns-clause-sound
returns-clause-sound c = lowered-sound

pub returns-clause-heap : goal.returns-clause-heap
returns-clause-heap c = lowered-heap
