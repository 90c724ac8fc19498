use Rattle.core_view.proofs.EndLaws.{drained-kept, image}
use Rattle.core_view.proofs.counts.what_is_left_is_kept.Goals as goal

pub returns-clause-kept : goal.returns-clause-kept
returns-clause-kept c = drained-kept

pub returns-clause-image : goal.returns-clause-image
returns-clause-image c = image
