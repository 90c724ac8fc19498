use Rattle.std.proofs.Common.{◌≡◌, ◌≤◌, ◌+◌, take}
use Rattle.st80_source.specs.Places.{column_behind}
use Rattle.st80_source.proofs.places.column_of.Given as goal

abbrev pub invariant-loop-b : goal.invariant-loop-b
invariant-loop-b l = (l.column ≡ column_behind (take l.b-index l.b-items)) × (l.column ≤ l.b-index + 1)
