use Rattle.loom_memory.specs.Memory.{loom_told}
use Rattle.loom_run.proofs.laws.no_cycle_wants_memory.Goals as goal

pub returns : goal.returns
unfolding loom_told
returns g c = λ m n halted. halted.cause
