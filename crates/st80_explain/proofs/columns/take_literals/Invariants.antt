use Rattle.std.proofs.Common.{◌≡◌}
use Rattle.st80_explain.proofs.columns.take_literals.Given as goal

abbrev pub invariant-literals : goal.invariant-literals
invariant-literals l = l.places.line.now ≡ l.initial.places.line.now
