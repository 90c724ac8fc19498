use Rattle.std.proofs.Common.{ℕ, ◌<◌}
use Rattle.std.specs.Prelude.{slice_index}
use Rattle.object_record.specs.Raw.{longs_of}
use Rattle.object_record.specs.Buffer.{raw_of}
use Rattle.object_record.specs.Objects.{value_in}
use Rattle.loom_memory.specs.Below.{IsBelow}
use Rattle.loom_memory.proofs.below.holds_below.Given as goal

abbrev pub invariant-loop-i : goal.invariant-loop-i
invariant-loop-i l = record {
  below : (j : ℕ) → j < l.i → IsBelow l.next (value_in (slice_index (longs_of (raw_of l.buf).body) j));
}
