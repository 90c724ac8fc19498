-- What a table stands for: an entry under each short name, and how many of them are free.
use Rattle.std.specs.Prelude.{ℕ, ◌+◌, ◌-◌, ◌*◌, ◌/◌, length, slice_index_or, if◌then◌else◌}
use Rattle.std.specs.List.{count_by}
use Rattle.object_table.specs.declared.entry.Entry.{Entry}
use Rattle.object_table.specs.declared.table.Table.{Table}
use Rattle.object_table.specs.Entries.{is_short, is_free, free_entry}

-- the entry of a short word; 0, odd words and words past the table name none
unfoldable pub entry_at : Table → ℕ → Entry
entry_at t s = if is_short s then slice_index_or t.entries.items (s / 2 - 1) free_entry else free_entry

-- how many entries it has
unfoldable pub entries_of : Table → ℕ
entries_of t = t.size

-- no short word from here on names an entry of the table
abbrev pub bound_of : Table → ℕ
bound_of t = 2 * entries_of t + 2

-- how many entries are free: those that were never in use, and those that are free again
unfoldable pub free_of : Table → ℕ
free_of t = t.size - length t.entries.items + count_by is_free t.entries.items
