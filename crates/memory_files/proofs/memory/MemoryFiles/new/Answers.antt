use Rattle.std.proofs.Common.{refl}
use Rattle.memory_files.specs.Memory.{with_at}
use Rattle.memory_files.proofs.memory.MemoryFiles.new.Goals as goal

pub returns-clause-output : goal.returns-clause-output
unfolding with_at
returns-clause-output c = refl

pub returns-clause-errors : goal.returns-clause-errors
unfolding with_at
returns-clause-errors c = refl
