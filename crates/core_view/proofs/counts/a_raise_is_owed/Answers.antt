use Rattle.core_view.proofs.CanLaws.{raise-one, raise-many}
use Rattle.core_view.proofs.ChangeLaws.{raised-sound, raised-heap}
use Rattle.core_view.proofs.counts.a_raise_is_owed.Goals as goal

pub returns-clause-one : goal.returns-clause-one
returns-clause-one c = raise-one

pub returns-clause-many : goal.returns-clause-many
returns-clause-many c = raise-many

pub returns-clause-sound : goal.returns-clause-sound
returns-clause-sound c = raised-sound

pub returns-clause-heap : goal.returns-clause-heap
returns-clause-heap c = raised-heap
