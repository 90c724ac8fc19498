use Rattle.image_memory.proofs.EndLaws.{ended-is}
use Rattle.image_memory.proofs.laws.a_memory_ends.Goals as goal

pub returns : goal.returns
returns g c = ended-is g.H.Host
