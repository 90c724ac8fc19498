-- What a directory in Work stands for: a map from names to entries.
use Rattle.std.specs.Prelude.{◌≡◌, ◌≢◌, ◌<◌, ℕ, ◌+◌, ◌*◌, ◌/◌, ◌==◌, ◌||◌, min, Bool, false, List, Option, None, Some, IsSome, IsTrue}
use Rattle.std.specs.FinMap as map
use Rattle.loom_host.specs.declared.outside.Host.{Ghosts}
use Rattle.loom_host.specs.declared.outside.Role.TheVariants.{Work}
use Rattle.probing.specs.declared.TheConstants.{BLOCK_SLOTS}
use Rattle.probing.specs.Homes.{paged_home_of}
use Rattle.probing.specs.Search.{IsVacancy}
use Rattle.probing.specs.Table.{map_of, IsTable}
use Rattle.work_directory.specs.declared.directory.Found.{Found}
use Rattle.work_directory.specs.declared.directory.Found.TheVariants.{Held, Vacant}
use Rattle.work_directory.specs.declared.slot.Slot.{Slot}
use Rattle.work_directory.specs.declared.directory.Directory.{Directory}
use Rattle.work_directory.specs.Marks.{has_mark}
use Rattle.work_directory.specs.Slots.{slot_at, slots_end, used_slot, AreSpelled}
use Rattle.work_directory.specs.Table.{Entry, Entries, entry_of, name_at, entry_at}
use Rattle.work_directory.specs.Work.{SameFrom}
use Rattle.loom_host.specs.Work.{work_of}

-- how many names it has room for, and how many it holds
unfoldable pub room_of : Directory → ℕ
room_of d = d.room

unfoldable pub held_of : Directory → ℕ
held_of d = d.held

-- how many slots it has
abbrev pub slots_of : Directory → ℕ
slots_of d = 2 * room_of d

-- how many blocks of slots it has, the last with what is left
abbrev pub blocks_of : Directory → ℕ
blocks_of d = slots_of d / BLOCK_SLOTS + 1

-- where a block begins, which is where the one before ends
abbrev pub first_slot : Directory → ℕ → ℕ
first_slot d block = min (BLOCK_SLOTS * block) (slots_of d)

-- a slot of this block was ever written
unfoldable pub was_written : Directory → ℕ → Bool
was_written d block = has_mark d.written block

-- the place behind the page of its last block
abbrev pub end_of : Directory → ℕ
end_of d = slots_end (slots_of d)

-- the entries that it has in these contents of Work
unfoldable pub entries_of : Directory → List ℕ → Entries
entries_of d work = map_of (name_at work) (entry_at work) (slots_of d)

-- slot i in these contents, where it isn't empty
unfoldable pub shown_at : List ℕ → ℕ → Option Slot
shown_at work i = used_slot (slot_at work i)

-- ---- where a search ends

-- the entry that a search found
abbrev pub found_entry : Found → Option Entry
found_entry (Held at slot) = Some (entry_of slot)
found_entry (Vacant at) = None

-- a search for this name ended within n slots, at one of this name or at an empty one
abbrev pub IsOfName : ℕ → ℕ → Found → Type 0
IsOfName n name (Held at slot) = (at < n) × (slot.name ≡ name) × (name ≢ 0)
IsOfName n name (Vacant at) = (at < n) × (name ≢ 0)

-- it ended at the slot that it tells, or at the empty slot that it met first
abbrev pub AnswersSearch : List ℕ → ℕ → ℕ → Found → Type 0
AnswersSearch work n name (Held at slot) = slot_at work at ≡ slot
AnswersSearch work n name (Vacant at) = IsVacancy paged_home_of (name_at work) n name at

-- ---- a directory in Work

-- these contents of Work hold the directory
pub record IsIn (d : Directory) (work : List ℕ) : Type 0 where
  -- each slot is spelled as one
  pub spelled : AreSpelled work (slots_of d)
  -- a search finds what there is, and so many slots are used as the directory counts
  pub table : IsTable paged_home_of (name_at work) (slots_of d) (held_of d)
  -- a slot of a block that was never written is empty
  pub unwritten : (i : ℕ) → i < slots_of d → was_written d (i / BLOCK_SLOTS) ≡ false → name_at work i ≡ 0
  -- it has as many entries
  pub held : map.len (entries_of d work) ≡ held_of d

-- the new contents hold the directory with these entries, and behind it all is as it was
pub record IsChanged (d : Directory) (entries : Entries) (old new : List ℕ) : Type 0 where
  pub is_in : IsIn d new
  pub entries_are : entries_of d new ≡ entries
  pub behind : SameFrom (end_of d) old new

-- ---- in Work of a host, where it tells Work

-- Work holds the directory
abbrev pub HoldsDirectory : {H : Type 0} → Ghosts H → H → Directory → Type 0
HoldsDirectory host now d = IsTrue (host.tells Work) → IsIn d (work_of host now)

-- the entries that it has there
abbrev pub entries_in : {H : Type 0} → Ghosts H → H → Directory → Entries
entries_in host now d = entries_of d (work_of host now)

-- a name is held
abbrev pub Holds : {H : Type 0} → Ghosts H → H → Directory → ℕ → Type 0
Holds host now d name = IsTrue (host.tells Work) → IsSome (map.get (entries_in host now d) name)

-- a name isn't held
abbrev pub Lacks : {H : Type 0} → Ghosts H → H → Directory → ℕ → Type 0
Lacks host now d name = IsTrue (host.tells Work) → map.get (entries_in host now d) name ≡ None

-- the search for a name ends so
abbrev pub EndsAt : {H : Type 0} → Ghosts H → H → Directory → ℕ → Found → Type 0
EndsAt host now d name found = IsOfName (slots_of d) name found × (IsTrue (host.tells Work) → AnswersSearch (work_of host now) (slots_of d) name found)

-- it ends at this slot, which has the name
abbrev pub StandsAt : {H : Type 0} → Ghosts H → H → Directory → ℕ → ℕ → Type 0
StandsAt host now d name at = (held : Slot) × EndsAt host now d name (Held at held)

-- Work holds the directory with these entries after a call, and behind it what it held before
abbrev pub Becomes : {H : Type 0} → Ghosts H → H → H → Directory → Entries → Type 0
Becomes host old new d entries = IsTrue (host.tells Work) → IsChanged d entries (work_of host old) (work_of host new)

-- ---- which blocks were ever written

-- beside those of before it is that of this slot, and no other
abbrev pub WritesBlockOf : ℕ → Directory → Directory → Type 0
WritesBlockOf at old new = (block : ℕ) → was_written new block ≡ (block == at / BLOCK_SLOTS || was_written old block)

-- they are those of before
abbrev pub WritesNoBlock : Directory → Directory → Type 0
WritesNoBlock old new = (block : ℕ) → was_written new block ≡ was_written old block

-- beside those of before it is that of the empty slot where the search for a name ended, and no other
pub record WritesWhereItEnds {H : Type 0} (host : Ghosts H) (now : H) (name : ℕ) (old new : Directory) : Type 0 where
  pub at : ℕ
  pub ends : EndsAt host now old name (Vacant at)
  pub block : WritesBlockOf at old new
