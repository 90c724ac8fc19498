-- The numbers that index arguments are.
use Rattle.std.specs.Prelude.{ℕ, ℤ, pos, negsuc, ◌<◌, ◌≤◌, ◌==◌, ◌||◌, nat_lt, nat_le, Bool, true, false, Option, Some, None, if◌then◌else◌}
use Rattle.std.specs.Int.Signed.{lt_z}
use Rattle.long_names.specs.declared.limits.TheConstants.{SMALL_INTEGERS, MOST_FIELDS}

-- a number of a SmallInteger, or of two bytes
abbrev pub IsIndex : ℤ → Type 0
IsIndex (pos n) = n ≤ MOST_FIELDS
IsIndex (negsuc n) = n < SMALL_INTEGERS

-- there are two
abbrev pub is_pair : Option ℕ → Bool
is_pair None = false
is_pair (Some n) = n == 2

-- a number from 1 on
abbrev pub positive : ℤ → Option ℕ
positive (pos n) = if nat_lt 0 n then Some n else None
positive (negsuc n) = None

-- an index is at a limit, or at the end of so many
abbrev pub has_ended : ℕ → ℤ → ℕ → Bool
has_ended index limit len = (if lt_z (pos index) limit then false else true) || nat_le len index
