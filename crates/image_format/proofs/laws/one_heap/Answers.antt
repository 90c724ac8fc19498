use Rattle.image_format.proofs.Heaps.{same_heap}
use Rattle.image_format.proofs.laws.one_heap.Goals as goal

pub returns : goal.returns
returns c = same_heap
