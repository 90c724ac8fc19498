use Rattle.std.proofs.Common.{◌≡◌, ℕ, true, is_some, map, take}
use Rattle.std.specs.List.{count_by, list_any}
use Rattle.long_names.specs.Objects.{is_ref}
use Rattle.object_record.specs.Buffer.{raw_of}
use Rattle.object_record.specs.Objects.{value_in}
use Rattle.object_record.specs.Raw.{longs_of}
use Rattle.image_reader.specs.Tally.{counted, Raises}
use Rattle.image_reader.proofs.tally.Tally.count_fields.Given as goal

abbrev pub invariant-loop-i : goal.invariant-loop-i
invariant-loop-i l = record {
  more : Raises (λ q. count_by (is_ref q) (take l.i (map value_in (longs_of (raw_of l.buf).body)))) l.initial.self l.self;
  names : l.self.names ≡ l.initial.self.names;
  there : (q : ℕ) → list_any (is_ref q) (take l.i (map value_in (longs_of (raw_of l.buf).body))) ≡ true → is_some (counted l.initial.self q) ≡ true;
}
