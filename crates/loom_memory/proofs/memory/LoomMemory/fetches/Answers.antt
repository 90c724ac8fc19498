use Rattle.std.proofs.Common.{refl}
use Rattle.loom_memory.specs.Residents.{fetched}
use Rattle.loom_memory.proofs.memory.LoomMemory.fetches.Goals as goal

pub returns : goal.returns
unfolding fetched
returns g c = refl
