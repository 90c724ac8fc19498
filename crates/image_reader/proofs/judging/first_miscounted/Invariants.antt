use Rattle.std.proofs.Common.{◌≡◌, ℕ, List, drop}
use Rattle.long_names.specs.declared.object.Rec.{Rec}
use Rattle.image_format.specs.Rules.{first_failing, is_counted, words_in}
use Rattle.image_reader.specs.Judged.{AreStated}
use Rattle.image_reader.specs.Tally.{IsFresh, Raises}
use Rattle.image_reader.specs.declared.tally.Tally.{Tally}
use Rattle.image_reader.proofs.judging.first_miscounted.Given as goal

abbrev pub invariant-loop-i : goal.invariant-loop-i
invariant-loop-i l = (recs : List Rec) (next : ℕ) (old : Tally) → AreStated l.tally.names l.stated recs next → IsFresh l.tally.names old → Raises (words_in recs) old l.tally
    → first_failing 11 (is_counted (words_in recs)) recs ≡ first_failing 11 (is_counted (words_in recs)) (drop l.i recs)
