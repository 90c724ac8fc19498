use Rattle.std.proofs.Common.{ℕ, ◌≡◌, ◌<◌, length}
use Rattle.std.specs.List.{slice_get}
use Rattle.object_record.specs.Raw.{raw_words, with_raw}
use Rattle.object_record.specs.Buffer.{raw_of, HasRecord}
use Rattle.core_segment.specs.Segment.{chunk_at}
use Rattle.leaf_lambda.specs.Records.{with_words}
use Rattle.leaf_lambda.proofs.merge.copy_words.Given as goal

abbrev pub invariant-loop-i : goal.invariant-loop-i
invariant-loop-i l = record {
  record_there : HasRecord l.buf;
  part : raw_of l.buf ≡ with_raw (raw_of l.fn.buf) (with_words (raw_of l.fn.buf).body (raw_words (raw_of l.buf).body));
  long : length (raw_words (raw_of l.buf).body) ≡ l.fn.len;
  done : (k : ℕ) → k < l.i → slice_get (raw_words (raw_of l.buf).body) k ≡ slice_get (chunk_at l.g l.fn.at.place).words k;
}
