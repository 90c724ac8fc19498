-- The names that slots of a directory have.
use Rattle.std.specs.Prelude.{ℕ, zero, suc, ◌==◌, ◌||◌, Bool, false, Option, None, Some}
use Rattle.work_directory.specs.declared.slot.Slot.{Slot}

-- a slot has this name
abbrev pub is_named : ℕ → Option Slot → Bool
is_named q None = false
is_named q (Some s) = s.name == q

-- one of the first n slots has this name
abbrev pub seen : (ℕ → Option Slot) → ℕ → ℕ → Bool
seen f q zero = false
seen f q (suc n) = is_named q (f n) || seen f q n
