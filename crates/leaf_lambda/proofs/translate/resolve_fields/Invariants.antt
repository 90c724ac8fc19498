use Rattle.std.proofs.Common.{ℕ, ◌≡◌, ◌<◌, ◌≤◌, Some, length, map, get_or}
use Rattle.std.specs.List.{slice_get}
use Rattle.long_names.specs.Words.{value_of}
use Rattle.object_record.specs.Raw.{longs_of}
use Rattle.object_record.specs.Buffer.{raw_of}
use Rattle.object_record.specs.Objects.{value_in}
use Rattle.core_view.specs.Words.{pointers}
use Rattle.core_view.specs.Held.{Disk, fields_there}
use Rattle.core_view.specs.Kept.{IsBacked, Keeps}
use Rattle.leaf_lambda.specs.Parts.{core_of, spare_of, IsParts, Resolves}
use Rattle.leaf_lambda.specs.Records.{MayBeLambda}
use Rattle.leaf_lambda.proofs.translate.resolve_fields.Given as goal

abbrev pub invariant-loop-i : goal.invariant-loop-i
invariant-loop-i l = record {
  parts : IsParts l.p;
  keeps : (disk : Disk) → IsBacked (core_of l.fn.p) disk → fields_there (disk ((core_of l.fn.p).entries l.fn.s.0).name) ≡ map value_in (longs_of (raw_of l.fn.buf).body) → Keeps disk (core_of l.fn.p) (core_of l.p);
  resolves : Resolves l.fn.s.0 l.i l.fn.p l.p;
  long : length (pointers ((core_of l.fn.p).entries l.fn.s.0).kind ((core_of l.p).chunks l.fn.at.place).words) ≡ l.fn.count;
  rest : (j : ℕ) → l.i ≤ j → j < l.fn.count → slice_get (pointers ((core_of l.fn.p).entries l.fn.s.0).kind ((core_of l.p).chunks l.fn.at.place).words) j ≡ Some 0;
  lambdas : (j : ℕ) → j < l.i → slice_get (pointers ((core_of l.fn.p).entries l.fn.s.0).kind ((core_of l.p).chunks l.fn.at.place).words) j ≡ Some 0 → MayBeLambda (core_of l.p).find (spare_of l.p) (value_of (get_or (longs_of (raw_of l.fn.buf).body) j 0));
}
