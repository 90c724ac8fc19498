use Rattle.delta_counts.proofs.NumberLaws.{held-on_disk}
use Rattle.delta_counts.proofs.laws.objects_are_counted_on_disk.Goals as goal

pub returns : goal.returns
returns c = held-on_disk
