use Rattle.core_view.proofs.SwapLaws.{swapped-sound, swapped-heap}
use Rattle.core_view.proofs.counts.two_objects_change_places.Goals as goal

pub returns-clause-sound : goal.returns-clause-sound
returns-clause-sound c = swapped-sound

pub returns-clause-heap : goal.returns-clause-heap
returns-clause-heap c = swapped-heap
