use Rattle.loom_memory.specs.Memory.{loom_told}
use Rattle.loom_memory.proofs.laws.no_call_wants_memory.Goals as goal

pub returns : goal.returns
unfolding loom_told
returns g c = λ old m call refused. refused.cause.0
