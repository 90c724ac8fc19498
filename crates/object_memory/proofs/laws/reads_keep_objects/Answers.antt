use Rattle.object_memory.proofs.LooksLaws.{object_looked}
use Rattle.object_memory.proofs.laws.reads_keep_objects.Goals as goal

pub returns : goal.returns
returns c = object_looked
