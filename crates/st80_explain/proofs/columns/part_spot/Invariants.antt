use Rattle.std.proofs.Common.{◌≡◌}
use Rattle.st80_explain.proofs.columns.part_spot.Given as goal

abbrev pub invariant-parts : goal.invariant-parts
invariant-parts l = l.places.line.now ≡ l.line
