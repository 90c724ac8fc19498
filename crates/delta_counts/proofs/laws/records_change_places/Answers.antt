use Rattle.delta_counts.proofs.SwapLaws.{swap-stored}
use Rattle.delta_counts.proofs.laws.records_change_places.Goals as goal

pub returns : goal.returns
returns c = swap-stored
