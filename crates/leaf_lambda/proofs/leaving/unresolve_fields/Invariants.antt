use Rattle.std.proofs.Common.{ℕ, ◌≡◌, ◌<◌, Some, length}
use Rattle.std.specs.List.{slice_get}
use Rattle.object_table.specs.Entries.{with_refs}
use Rattle.core_segment.specs.Segment.{SameRoom}
use Rattle.core_view.specs.Words.{pointers}
use Rattle.core_view.specs.Kept.{Stays}
use Rattle.leaf_lambda.specs.Parts.{core_of, spare_of, IsParts, IsWithin}
use Rattle.leaf_lambda.proofs.leaving.unresolve_fields.Given as goal

abbrev pub invariant-loop-i : goal.invariant-loop-i
invariant-loop-i l = record {
  parts : IsParts l.p;
  stays : Stays (core_of l.fn.p) (core_of l.p);
  within : IsWithin l.fn.s.0 (core_of l.fn.p) (core_of l.p);
  entry : (core_of l.p).entries l.fn.s.0 ≡ with_refs ((core_of l.fn.p).entries l.fn.s.0) ((core_of l.p).entries l.fn.s.0).refs;
  long : length (pointers ((core_of l.fn.p).entries l.fn.s.0).kind ((core_of l.p).chunks l.fn.at.place).words) ≡ l.fn.count;
  zeros : (j : ℕ) → j < l.i → slice_get (pointers ((core_of l.fn.p).entries l.fn.s.0).kind ((core_of l.p).chunks l.fn.at.place).words) j ≡ Some 0;
  body : length ((core_of l.p).chunks l.fn.at.place).words ≡ length ((core_of l.fn.p).chunks l.fn.at.place).words;
  room : SameRoom l.fn.p.segment l.p.segment;
  find : (core_of l.p).find ≡ (core_of l.fn.p).find;
  spare : spare_of l.p ≡ spare_of l.fn.p;
}
