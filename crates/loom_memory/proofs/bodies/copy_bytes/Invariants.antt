use Rattle.std.proofs.Common.{ℕ, ◌≡◌, ◌+◌, ◌<◌, length}
use Rattle.std.specs.List.{slice_get}
use Rattle.std.specs.Prelude.{drop}
use Rattle.core_segment.specs.Segment.{chunk_at}
use Rattle.core_view.specs.Words.{bytes_in}
use Rattle.loom_memory.proofs.bodies.copy_bytes.Given as goal

abbrev pub invariant-loop-k : goal.invariant-loop-k
invariant-loop-k l = record {
  long : length l.out ≡ length l.fn.out;
  done : (j : ℕ) → j < l.k → slice_get l.out j ≡ slice_get (bytes_in (drop l.fn.first (chunk_at l.fn.g l.fn.at.place).words)) (l.fn.i + j);
}
