use Rattle.std.proofs.Common.{◌≡◌, ◌+◌, drop}
use Rattle.st80_compile.specs.Frame.{index_of}
use Rattle.st80_compile.proofs.frame.index_of.Given as goal

-- the literal isn't among those that were passed
abbrev pub invariant-loop-i : goal.invariant-loop-i
invariant-loop-i l = index_of l.frame l.literal ≡ l.i + index_of (drop l.i l.frame) l.literal
