use Rattle.object_memory.proofs.LooksLaws.{Looks-trans}
use Rattle.object_memory.proofs.laws.reads_add_up.Goals as goal

pub returns : goal.returns
returns c = Looks-trans
