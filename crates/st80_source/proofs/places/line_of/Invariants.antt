use Rattle.std.proofs.Common.{◌≡◌, ◌≤◌, ◌+◌, take}
use Rattle.st80_source.specs.Places.{line_behind}
use Rattle.st80_source.proofs.places.line_of.Given as goal

abbrev pub invariant-loop-b : goal.invariant-loop-b
invariant-loop-b l = (l.line ≡ line_behind (take l.b-index l.b-items)) × (l.line ≤ l.b-index + 1)
