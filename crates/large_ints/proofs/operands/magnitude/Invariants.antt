use Rattle.std.proofs.Common.{◌≡◌, ◌≤◌, length, drop}
use Rattle.blue_model.specs.LargeInts as model
use Rattle.large_ints.proofs.operands.magnitude.Given as goal

-- The bytes from here on were taken.
abbrev pub invariant-loop-i : goal.invariant-loop-i
invariant-loop-i l = record {
  place : l.i ≤ length l.fn.bytes;
  number : l.n ≡ model.magnitude (drop l.i l.fn.bytes);
}

abbrev pub decreases-loop-i : goal.decreases-loop-i
decreases-loop-i l = l.i
