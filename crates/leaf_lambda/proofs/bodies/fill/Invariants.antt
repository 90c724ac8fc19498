use Rattle.std.proofs.Common.{ℕ, ◌≡◌, ◌<◌, length}
use Rattle.std.specs.List.{slice_get}
use Rattle.object_record.specs.Buffer.{raw_of}
use Rattle.core_segment.specs.Chunks.{with_chunk}
use Rattle.core_segment.specs.Segment.{chunk_at, SameRoom}
use Rattle.leaf_lambda.specs.Records.{unresolved}
use Rattle.leaf_lambda.proofs.bodies.fill.Given as goal

abbrev pub invariant-loop-k : goal.invariant-loop-k
invariant-loop-k l = record {
  chunk : chunk_at l.g ≡ with_chunk (chunk_at l.fn.g) l.fn.at.place (record { owner = (chunk_at l.fn.g l.fn.at.place).owner; words = (chunk_at l.g l.fn.at.place).words });
  room : SameRoom l.fn.g l.g;
  long : length (chunk_at l.g l.fn.at.place).words ≡ l.fn.words;
  done : (j : ℕ) → j < l.k → slice_get (chunk_at l.g l.fn.at.place).words j ≡ slice_get (unresolved (raw_of l.fn.buf).body) j;
}
