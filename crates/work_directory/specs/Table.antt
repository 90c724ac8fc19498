-- What a directory has under a name, and its slots as a table with linear probing.
use Rattle.std.specs.Prelude.{ℕ, List}
use Rattle.std.specs.Ordering.{nat_cmp}
use Rattle.std.specs.FinMap as map
use Rattle.work_directory.specs.declared.slot.Slot.{Slot}
use Rattle.work_directory.specs.Slots.{slot_at}

-- what a directory has under a name: the count and the place
pub record Entry : Type 0 where
  pub count : ℕ
  pub place : ℕ

abbrev pub Entries : Type 0
Entries = map.FinMap nat_cmp Entry

abbrev pub entry_of : Slot → Entry
entry_of s = record { count = s.count; place = s.place }

-- the name in slot i of Work, and the entry with it
abbrev pub name_at : List ℕ → ℕ → ℕ
name_at work i = (slot_at work i).name

abbrev pub entry_at : List ℕ → ℕ → Entry
entry_at work i = entry_of (slot_at work i)
