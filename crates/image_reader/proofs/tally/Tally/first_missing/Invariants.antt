use Rattle.std.proofs.Common.{◌≡◌, drop}
use Rattle.long_names.specs.Names.{known_names}
use Rattle.image_reader.specs.Judged.{missing_among}
use Rattle.image_reader.specs.Tally.{counted}
use Rattle.image_reader.proofs.tally.Tally.first_missing.Given as goal

abbrev pub invariant-loop-i : goal.invariant-loop-i
invariant-loop-i l = missing_among (counted l.self) known_names ≡ missing_among (counted l.self) (drop l.i known_names)
