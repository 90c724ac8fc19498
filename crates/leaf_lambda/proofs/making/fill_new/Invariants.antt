use Rattle.std.proofs.Common.{ℕ, ◌≡◌, ◌<◌, length}
use Rattle.std.specs.List.{slice_get}
use Rattle.core_segment.specs.Chunks.{with_chunk}
use Rattle.core_segment.specs.Segment.{chunk_at, SameRoom}
use Rattle.leaf_lambda.specs.Making.{words_new}
use Rattle.leaf_lambda.proofs.making.fill_new.Given as goal

abbrev pub invariant-loop-k : goal.invariant-loop-k
invariant-loop-k l = record {
  chunk : chunk_at l.g ≡ with_chunk (chunk_at l.fn.g) l.fn.at.place (record { owner = (chunk_at l.fn.g l.fn.at.place).owner; words = (chunk_at l.g l.fn.at.place).words });
  long : length (chunk_at l.g l.fn.at.place).words ≡ l.fn.words;
  room : SameRoom l.fn.g l.g;
  done : (j : ℕ) → j < l.k → slice_get (chunk_at l.g l.fn.at.place).words j ≡ slice_get (words_new l.fn.kind l.fn.len l.fn.header l.fn.filler) j;
}
