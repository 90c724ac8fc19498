-- What a resident table stands for: a map from names to short words.
use Rattle.std.specs.Prelude.{ℕ, ◌==◌, Option, None, length, if◌then◌else◌}
use Rattle.probing.specs.Table.{looked_up}
use Rattle.resident_table.specs.declared.resident.Resident.{Resident}
use Rattle.resident_table.specs.Inside.{name_at, short_at}

-- the short word of a name
unfoldable pub short_of : Resident → ℕ → Option ℕ
short_of r name = if name == 0 then None else looked_up (name_at r.slots.items) (short_at r.slots.items) (length r.slots.items) name

-- how many names have one
unfoldable pub held_of : Resident → ℕ
held_of r = r.held

-- how many names it has room for
unfoldable pub room_of : Resident → ℕ
room_of r = r.room
