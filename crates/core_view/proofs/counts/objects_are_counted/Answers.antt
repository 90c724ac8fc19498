use Rattle.core_view.proofs.NumberLaws.{held-number}
use Rattle.core_view.proofs.counts.objects_are_counted.Goals as goal

pub returns : goal.returns
returns c = held-number
