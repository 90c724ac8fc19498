-- Places in a line.
use Rattle.std.specs.Prelude.{ℕ, ◌+◌, ◌<◌, ◌≤◌}
use Rattle.st80_explain.specs.declared.columns.Spot.{Spot}

-- a column of a line of so many bytes, from 1 to the one behind it, and no more bytes than stand from there
abbrev pub IsSpotOf : ℕ → Spot → Type 0
IsSpotOf len spot = (0 < spot.column) × (spot.column + spot.len ≤ len + 1)
