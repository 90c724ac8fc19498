-- The slots of a resident table, as a table with linear probing. A slot of the name 0 is empty.
use Rattle.std.specs.Prelude.{◌≡◌, ℕ, ◌⊎◌, List, slice_index_or}
use Rattle.probing.specs.Homes.{home_of}
use Rattle.probing.specs.Search.{IsVacancy}
use Rattle.resident_table.specs.declared.probe.Slot.{Slot}

-- an empty slot
abbrev pub no_slot : Slot
no_slot = record { name = 0; short = 0 }

-- the slots of a list
abbrev pub slot_at : List Slot → ℕ → Slot
slot_at slots i = slice_index_or slots i no_slot

-- the names in them, and the short words with them
abbrev pub name_at : List Slot → ℕ → ℕ
name_at slots i = (slot_at slots i).name

abbrev pub short_at : List Slot → ℕ → ℕ
short_at slots i = (slot_at slots i).short

-- what the search for a name ends at: a slot of it, or an empty one
abbrev pub Ends : (ℕ → ℕ) → ℕ → ℕ → ℕ → Type 0
Ends names n name at = (names at ≡ name) ⊎ IsVacancy home_of names n name at
