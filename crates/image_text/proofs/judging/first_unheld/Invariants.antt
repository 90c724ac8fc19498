use Rattle.std.proofs.Common.{◌≡◌, drop}
use Rattle.image_text.specs.Judged.{unheld_among, words_of}
use Rattle.image_text.proofs.judging.first_unheld.Given as goal

abbrev pub invariant-loop-i : goal.invariant-loop-i
invariant-loop-i l = unheld_among (words_of l.tally) l.tally.names ≡ unheld_among (words_of l.tally) (drop l.i l.tally.names)
