use Rattle.loom_memory.specs.Memory.{loom_told}
use Rattle.loom_memory.proofs.implementation.LoomMemoryObjectMemory.next_name.Goals as goal

pub returns : goal.returns
unfolding loom_told
returns g c = λ told. c.next_name.ensures told
