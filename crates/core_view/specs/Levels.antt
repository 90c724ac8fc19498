-- A core and a disk with counts, as functions: what they hold together, and the count of each name.
use Rattle.std.specs.Prelude.{ℕ, ℤ, pos, ◌+ℤ◌, ◌==◌, Bool, false, List, Option, Some, None, if◌then◌else◌}
use Rattle.long_names.specs.declared.object.Object.{Object}
use Rattle.long_names.specs.Names.{is_known}
use Rattle.long_names.specs.Heap.{Heap}
use Rattle.core_view.specs.Core.{Core}
use Rattle.core_view.specs.Held.{Disk, held}
use Rattle.core_view.specs.Counts.{change_of}

-- what a disk has of a name: the object of its record, and its count
pub record Stored : Type 0 where
  pub object : Object
  pub count : ℕ

-- a core, what the disk has of each name, the names that are pending there, and the next name
pub record Levels : Type 0 where
  pub core : Core
  pub stored : ℕ → Option Stored
  pub pending : List ℕ
  pub next : ℕ

abbrev pub record_in : Option Stored → Option Object
record_in None = None
record_in (Some r) = Some r.object

abbrev pub count_in : Option Stored → ℕ
count_in None = 0
count_in (Some r) = r.count

-- the records
abbrev pub records_of : Levels → Disk
records_of t = λ q. record_in (t.stored q)

-- the held heap
abbrev pub heap_of : Levels → Heap
heap_of t = record { at = held t.core (records_of t); next = t.next }

-- the count of a name: that on disk, 0 where it has no record, and the change in its entry, 0 where it has none
abbrev pub sum_of : Levels → ℕ → ℤ
sum_of t q = pos (count_in (t.stored q)) +ℤ change_of t.core q

-- A name waits to be freed where it is on disk with count 0, has no entry, and isn't known.
abbrev pub waits : Option ℕ → Option Stored → Bool → Bool
waits (Some s) stored known = false
waits None None known = false
waits None (Some r) known = if known then false else r.count == 0

abbrev pub is_waiting : Levels → ℕ → Bool
is_waiting t q = waits (t.core.find q) (t.stored q) (is_known q)
