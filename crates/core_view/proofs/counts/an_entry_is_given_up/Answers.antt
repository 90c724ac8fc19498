use Rattle.core_view.proofs.ChangeLaws.{given-sound, given-heap}
use Rattle.core_view.proofs.counts.an_entry_is_given_up.Goals as goal

pub returns-clause-sound : goal.returns-clause-sound
returns-clause-sound c = given-sound

pub returns-clause-heap : goal.returns-clause-heap
returns-clause-heap c = given-heap
