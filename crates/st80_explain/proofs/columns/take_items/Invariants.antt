use Rattle.std.proofs.Common.{◌≡◌}
use Rattle.st80_explain.proofs.columns.take_items.Given as goal

abbrev pub invariant-loop-count : goal.invariant-loop-count
invariant-loop-count l = l.places.line.now ≡ l.initial.places.line.now
