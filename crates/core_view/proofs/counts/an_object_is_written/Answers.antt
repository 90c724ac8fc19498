use Rattle.core_view.proofs.StoreLaws.{written-sound}
use Rattle.core_view.proofs.counts.an_object_is_written.Goals as goal

pub returns : goal.returns
returns c = written-sound
