-- The flags of an entry as the number that `bitflags` makes of them.
use Rattle.std.specs.Prelude.{ℕ, ◌+◌, ◌*◌, ◌%◌, false, if◌then◌else◌}
use Rattle.object_table.specs.declared.flags.EntryFlags.{EntryFlags}

abbrev pub no_flags : EntryFlags
no_flags = record { changed = false; touched = false; marked = false; fresh = false; others = 0 }

-- the bits of the flags, from the lowest on in the order of the fields
abbrev pub bits_of : EntryFlags → ℕ
bits_of f =
    (if f.changed then 1 else 0) + (if f.touched then 2 else 0) + (if f.marked then 4 else 0) + (if f.fresh then 8 else 0)
    + 16 * (f.others % 16)
