use Rattle.std.proofs.Common.{◌<◌, ℕ}
use Rattle.work_space.specs.Blocks.{block_size}
use Rattle.work_space.proofs.size_class.size_class_of.Given as goal

abbrev pub invariant-loop-c : goal.invariant-loop-c
invariant-loop-c l = (d : ℕ) → d < l.c → block_size d < l.bytes
