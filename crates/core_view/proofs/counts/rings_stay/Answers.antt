use Rattle.core_view.proofs.RingLaws.{ring-stays}
use Rattle.core_view.proofs.counts.rings_stay.Goals as goal

pub returns : goal.returns
returns c = ring-stays
