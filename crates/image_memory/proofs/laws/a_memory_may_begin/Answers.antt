use Rattle.image_memory.proofs.ImageLaws.{has-loaded, may-begin}
use Rattle.image_memory.proofs.laws.a_memory_may_begin.Goals as goal

pub returns-clause-loaded : goal.returns-clause-loaded
returns-clause-loaded g c = has-loaded g.H.Host

pub returns-clause-heap : goal.returns-clause-heap
returns-clause-heap g c = may-begin g.H.Host
