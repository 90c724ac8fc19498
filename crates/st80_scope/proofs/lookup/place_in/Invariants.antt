use Rattle.std.proofs.Common.{◌≡◌, ℕ, ◌<◌}
use Rattle.st80_scope.specs.Names.{HasName}
use Rattle.st80_scope.proofs.lookup.place_in.Given as goal

abbrev pub invariant-each : goal.invariant-each
invariant-each l = (l.at ≡ l.other-index) × ((k : ℕ) → k < l.at → HasName l.names l.name k → ⊥)
