use Rattle.std.proofs.Common.{ℕ, ◌≡◌, ◌<◌, length}
use Rattle.std.specs.Prelude.{◌≢◌, Some, slice_get}
use Rattle.core_view.specs.Words.{pointers}
use Rattle.leaf_lambda.specs.Parts.{core_of}
use Rattle.purger.proofs.alone.copy_fields.Given as goal

abbrev pub invariant-loop-i : goal.invariant-loop-i
invariant-loop-i l = record {
  long : length l.out ≡ length l.fn.out;
  done : (j : ℕ) → j < l.i → slice_get l.out j ≡ slice_get (pointers ((core_of l.fn.p).entries l.fn.s.0).kind ((core_of l.fn.p).chunks l.fn.at.place).words) j;
  some : (j w : ℕ) → j < l.i → slice_get (pointers ((core_of l.fn.p).entries l.fn.s.0).kind ((core_of l.fn.p).chunks l.fn.at.place).words) j ≡ Some w → w ≢ 0;
}
