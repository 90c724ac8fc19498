use Rattle.core_view.proofs.CanLaws.{counts-most}
use Rattle.core_view.proofs.counts.counts_are_small.Goals as goal

pub returns : goal.returns
returns c = counts-most
