use Rattle.std.proofs.Common.{ℕ, ◌≡◌, ◌+◌, ◌<◌, ◌≤◌, length}
use Rattle.std.specs.List.{slice_get}
use Rattle.long_names.specs.Objects.{put_run}
use Rattle.core_segment.specs.Chunks.{with_chunk}
use Rattle.core_segment.specs.Segment.{chunk_at, SameRoom, IsStart}
use Rattle.leaf_lambda.proofs.storing.write_run.Given as goal

abbrev pub invariant-loop-k : goal.invariant-loop-k
invariant-loop-k l = record {
  start : IsStart l.g l.start;
  chunk : chunk_at l.g ≡ with_chunk (chunk_at l.fn.g) l.fn.at.place (record { owner = (chunk_at l.fn.g l.fn.at.place).owner; words = (chunk_at l.g l.fn.at.place).words });
  long : length (chunk_at l.g l.fn.at.place).words ≡ length (chunk_at l.fn.g l.fn.at.place).words;
  room : SameRoom l.fn.g l.g;
  done : (j : ℕ) → j < l.fn.i + l.k → slice_get (chunk_at l.g l.fn.at.place).words j ≡ slice_get (put_run (chunk_at l.fn.g l.fn.at.place).words l.fn.i l.fn.run) j;
  rest : (j : ℕ) → l.fn.i + l.k ≤ j → slice_get (chunk_at l.g l.fn.at.place).words j ≡ slice_get (chunk_at l.fn.g l.fn.at.place).words j;
}
