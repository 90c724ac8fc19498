use Rattle.std.proofs.Common.{ℕ, ◌≡◌, ◌<◌, ◌≤◌, length, map, get_or}
use Rattle.std.specs.List.{slice_get}
use Rattle.object_record.specs.Raw.{longs_of, with_raw}
use Rattle.object_record.specs.Buffer.{raw_of, HasRecord}
use Rattle.object_record.specs.Objects.{value_in}
use Rattle.core_view.specs.Words.{meant}
use Rattle.core_view.specs.Steps.{IsAt}
use Rattle.leaf_lambda.specs.Parts.{core_of}
use Rattle.leaf_lambda.specs.Records.{with_longs}
use Rattle.leaf_lambda.proofs.merge.merge_fields.Given as goal

abbrev pub invariant-loop-i : goal.invariant-loop-i
invariant-loop-i l = record {
  record_there : HasRecord l.buf;
  longs : raw_of l.buf ≡ with_raw (raw_of l.fn.buf) (with_longs (raw_of l.fn.buf).body (longs_of (raw_of l.buf).body));
  long : length (longs_of (raw_of l.buf).body) ≡ length (longs_of (raw_of l.fn.buf).body);
  rest : (k : ℕ) → l.i ≤ k → slice_get (longs_of (raw_of l.buf).body) k ≡ slice_get (longs_of (raw_of l.fn.buf).body) k;
  done : (k w : ℕ) → k < l.i → IsAt (core_of l.p) l.fn.s.0 l.fn.at.place k w → value_in (get_or (longs_of (raw_of l.buf).body) k 0) ≡ meant (core_of l.p).entries (map value_in (longs_of (raw_of l.fn.buf).body)) k w;
}
