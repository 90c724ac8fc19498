use Rattle.std.proofs.Common.{◌≡◌, length}
use Rattle.st80_make.proofs.making.slices_of.Given as goal

abbrev pub invariant-each : goal.invariant-each
invariant-each l = length l.slices.items ≡ l.text-index
