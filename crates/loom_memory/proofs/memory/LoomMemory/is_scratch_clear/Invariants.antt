use Rattle.std.proofs.Common.{◌≡◌, ◌≤◌, ◌<◌, ℕ, true}
use Rattle.long_names.specs.declared.limits.TheConstants.{MACHINE_REGISTERS}
use Rattle.loom_memory.specs.Memory.{word_in}
use Rattle.loom_memory.proofs.memory.LoomMemory.is_scratch_clear.Given as goal

-- Where all were clear up to here, the scratch registers below that of this turn hold 0.
abbrev pub invariant-loop-r : goal.invariant-loop-r
invariant-loop-r g l = l.clear ≡ true → (q : ℕ) → MACHINE_REGISTERS ≤ q → q < l.r → word_in l.self.regs q ≡ 1
