-- What a two-level memory holds, as a function of its core and of its disk.
use Rattle.std.specs.Prelude.{ℕ, List, [], Option, Some, None}
use Rattle.long_names.specs.declared.value.Value.{Value}
use Rattle.long_names.specs.declared.object.Object.{Object}
use Rattle.long_names.specs.Objects.{fields_of}
use Rattle.object_table.specs.declared.entry.Entry.{Entry}
use Rattle.object_table.specs.Entries.{put, place_of}
use Rattle.core_view.specs.Core.{Core}
use Rattle.core_view.specs.Words.{body_in}

-- the object of each record
abbrev pub Disk : Type 0
Disk = ℕ → Option Object

-- the fields of a record that may be there
abbrev pub fields_there : Option Object → List Value
fields_there None = []
fields_there (Some o) = fields_of o.body

-- the object of an entry whose body lies at a place
abbrev pub object_at : Core → Disk → Entry → ℕ → Object
object_at c disk e p = record {
  class = (c.entries e.class.0).name;
  body = body_in c.entries (fields_there (disk e.name)) (c.chunks p).words e.kind e.len;
}

-- the disk with the object of s, whose body is at p, written as its record
abbrev pub disk_with : Core → Disk → ℕ → ℕ → Disk
disk_with c disk s p = put disk (c.entries s).name (Some (object_at c disk (c.entries s) p))

-- the object of an entry in the segment where its body is there, else its record's
abbrev pub held_in : Core → Disk → ℕ → Entry → Option ℕ → Option Object
held_in c disk n e None = disk n
held_in c disk n e (Some p) = Some (object_at c disk e p)

abbrev pub held_by : Core → Disk → ℕ → Option ℕ → Option Object
held_by c disk n None = disk n
held_by c disk n (Some s) = held_in c disk n (c.entries s) (place_of (c.entries s).state)

-- The held heap: at each name the object in the segment, where the name has an entry with a body, else the record's.
unfoldable pub held : Core → Disk → ℕ → Option Object
held c disk n = held_by c disk n (c.find n)
