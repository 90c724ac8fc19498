-- The numbers on which a making rests.
use Rattle.std.specs.Prelude.{◌≡◌, ℕ, ◌+◌, ◌≤◌, ◌<◌, ◌%◌, Option, None, Some}
use Rattle.long_names.specs.declared.limits.TheConstants.{MAKINGS_BEFORE_FREEING}

-- How many objects there were at the last settling, if that is known, and how many were made since then; how many are held, of so many that
-- there is room for; and the next name.
pub record IsNumbered (base : Option ℕ) (made held next room : ℕ) : Type 0 where
  -- what there was at the last settling, and what was made since then, is all that is held
  pub most : (b : ℕ) → base ≡ Some b → held ≤ b + made
  pub low : (b : ℕ) → base ≡ Some b → b ≤ room
  -- where it isn't known, there was room for so many
  pub eight : base ≡ None → made < MAKINGS_BEFORE_FREEING → held + MAKINGS_BEFORE_FREEING ≤ room + made
  -- each making takes a name, and names are even
  pub few : made ≤ next
  pub even : next % 2 ≡ 0
