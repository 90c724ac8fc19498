use Rattle.std.proofs.Common.{◌≡◌, ◌+◌, drop}
use Rattle.image_text.specs.Judged.{line_among}
use Rattle.image_text.proofs.judging.line_of.Given as goal

abbrev pub invariant-loop-i : goal.invariant-loop-i
invariant-loop-i l = line_among l.tally.names l.name ≡ line_among (drop l.i l.tally.names) l.name + l.i
