use Rattle.core_view.proofs.StoreLaws.{made-sound}
use Rattle.core_view.proofs.counts.an_object_is_made.Goals as goal

pub returns : goal.returns
returns c = made-sound
