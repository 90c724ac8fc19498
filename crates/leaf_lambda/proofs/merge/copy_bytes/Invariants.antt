use Rattle.std.proofs.Common.{ℕ, ◌≡◌, ◌<◌, length}
use Rattle.std.specs.List.{slice_get}
use Rattle.std.specs.Prelude.{drop}
use Rattle.object_record.specs.Raw.{raw_bytes, with_raw}
use Rattle.object_record.specs.Buffer.{raw_of, HasRecord}
use Rattle.core_segment.specs.Segment.{chunk_at}
use Rattle.core_view.specs.Words.{bytes_in}
use Rattle.leaf_lambda.specs.Records.{with_bytes}
use Rattle.leaf_lambda.proofs.merge.copy_bytes.Given as goal

abbrev pub invariant-loop-i : goal.invariant-loop-i
invariant-loop-i l = record {
  record_there : HasRecord l.buf;
  part : raw_of l.buf ≡ with_raw (raw_of l.fn.buf) (with_bytes (raw_of l.fn.buf).body (raw_bytes (raw_of l.buf).body));
  long : length (raw_bytes (raw_of l.buf).body) ≡ l.fn.len;
  done : (k : ℕ) → k < l.i → slice_get (raw_bytes (raw_of l.buf).body) k ≡ slice_get (bytes_in (drop l.fn.first (chunk_at l.g l.fn.at.place).words)) k;
}
