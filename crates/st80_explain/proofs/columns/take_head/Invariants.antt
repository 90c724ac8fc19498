use Rattle.std.proofs.Common.{◌≡◌}
use Rattle.st80_explain.proofs.columns.take_head.Given as goal

abbrev pub invariant-numbers : goal.invariant-numbers
invariant-numbers l = l.places.line.now ≡ l.fn.places.line.now
