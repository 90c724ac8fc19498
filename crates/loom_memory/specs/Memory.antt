-- What a two-level memory tells, and what it keeps.
use Rattle.std.specs.Prelude.{◌≡◌, ◌≢◌, ℕ, ◌+◌, ◌/◌, ◌<◌, ◌≤◌, ◌⊎◌, ◌==◌, ◌||◌, Bool, true, false, List, [], length, count_by, Option, None, Some, IsTrue, slice_index_or, if◌then◌else◌}
use Rattle.long_names.specs.declared.value.Value.{Value}
use Rattle.long_names.specs.declared.value.Value.TheVariants.{Ref}
use Rattle.long_names.specs.declared.limits.TheConstants.{ENTRIES_OF_A_CALL, REGISTERS}
use Rattle.object_memory.specs.declared.fault.Need.{Need}
use Rattle.long_names.specs.declared.object.Object.{Object}
use Rattle.long_names.specs.Heap.{Heap, Has, count_of}
use Rattle.long_names.specs.Names.{is_known}
use Rattle.long_names.specs.Objects.{body_words}
use Rattle.long_names.specs.Access.{Access, Say, Field, SetField, brought, heap_after, target_of}
use Rattle.long_names.specs.State.{set_register}
use Rattle.loom_host.specs.Outside.{RoleState, at_start, holds}
use Rattle.loom_host.specs.declared.outside.Role.{Role}
use Rattle.loom_host.specs.declared.outside.Role.TheVariants.{Work, Transcript}
use Rattle.loom_host.specs.declared.outside.Host.{Ghosts}
use Rattle.object_memory.specs.Told.{Told, is_root}
use Rattle.object_memory.specs.declared.fault.MemFault.{MemFault}
use Rattle.object_memory.specs.declared.fault.MemFault.TheVariants.{WorkFault, Damaged}
use Rattle.loom_host.specs.declared.outside.DiskFault.{DiskFault}
use Rattle.loom_host.specs.declared.outside.DiskFault.TheVariants as fault
use Rattle.object_record.specs.Buffer.{raw_of, HasRecord}
use Rattle.object_record.specs.Objects.{object_in}
use Rattle.object_table.specs.declared.entry.Entry.{Entry}
use Rattle.object_table.specs.Entries.{is_short, place_of}
use Rattle.object_table.specs.Table.{entries_of}
use Rattle.core_segment.specs.Segment.{size_of}
use Rattle.disk_objects.specs.declared.rest.DiskRest.{DiskRest}
use Rattle.disk_objects.specs.Calls.{HoldsObjects}
use Rattle.disk_objects.specs.Disk.{disk_held, disk_room}
use Rattle.core_view.specs.Core.{Core}
use Rattle.core_view.specs.Words.{meant}
use Rattle.core_view.specs.Held.{Disk, held}
use Rattle.core_view.specs.Counts.{names, outside}
use Rattle.core_view.specs.Kept.{IsBacked, IsValued}
use Rattle.leaf_lambda.specs.declared.parts.Parts.{Parts}
use Rattle.leaf_lambda.specs.Parts.{core_of}
use Rattle.loom_memory.specs.declared.ledger.Ledger.{Ledger}
use Rattle.purger.specs.declared.room.Pinned.{Pinned}
use Rattle.loom_memory.specs.declared.memory.LoomMemory.{LoomMemory}
use Rattle.object_memory.specs.Contract.{SameBounds, Raised, Does, IsLater, Refuses, LeavesCache, IsKeptCache, no_names, touched_by, with_mark, makes}
use Rattle.method_cache.specs.Found.{found}
use Rattle.purger.specs.declared.eviction.TheConstants.{NOWHERE}
use Rattle.purger.specs.Counts.{StandsFor}
use Rattle.core_view.specs.Levels.{Levels}
use Rattle.core_view.specs.Counted.{IsSound as AreSound}
use Rattle.loom_memory.specs.Cache.{has_mark, cache_of, IsCached}
use Rattle.loom_memory.specs.Numbers.{IsNumbered}
use Rattle.core_view.specs.Room.{in_hand, over_three, room_for, entries_for}
use Rattle.disk_objects.specs.Function.{disk_of}
use Rattle.core_view.specs.Purge.{fresh_of}

-- the word of a register
abbrev pub word_in : List ℕ → ℕ → ℕ
word_in regs r = slice_index_or regs r 1

-- the word of a slot
abbrev pub pin_in : Pinned → ℕ → ℕ
pin_in pins i = if i == 0 then pins.a else (if i == 1 then pins.b else (if i == 2 then pins.d else 0))

-- the slots with another word in one of them
abbrev pub with_pin : Pinned → ℕ → ℕ → Pinned
with_pin pins i w = if i == 0 then record pins { a = w } else (if i == 1 then record pins { b = w } else record pins { d = w })

-- the name of a slot's word, 0 for none
abbrev pub name_if : (ℕ → Entry) → ℕ → Option ℕ
name_if entries w = if w == 0 then None else Some (entries w).name

-- a heap where it is told, else nothing
abbrev pub heap_if : Bool → Disk → ℕ → Heap
heap_if true at next = record { at = at; next = next }
heap_if false at next = record { at = λ n. None; next = 0 }

-- ---- its parts, the words of the pinned three, the core, the host as it is, and what is known of the disk

abbrev pub loom_parts : {H : Type 0} {host : Ghosts H} → LoomMemory H host → Parts
loom_parts m = m.pager.levels.parts

abbrev pub loom_pins : {H : Type 0} {host : Ghosts H} → LoomMemory H host → Pinned
loom_pins m = m.pager.pinned

abbrev pub loom_core : {H : Type 0} {host : Ghosts H} → LoomMemory H host → Core
loom_core m = core_of m.pager.levels.parts

abbrev pub loom_now : {H : Type 0} {host : Ghosts H} → LoomMemory H host → H
loom_now m = m.pager.levels.disk.host.now

abbrev pub loom_rest : {H : Type 0} {host : Ghosts H} → LoomMemory H host → DiskRest
loom_rest m = m.pager.levels.disk.rest

-- the name of the loan by which it holds its host
abbrev pub loom_lender : {H : Type 0} {host : Ghosts H} → LoomMemory H host → ℕ
loom_lender m = m.pager.levels.disk.host.ghost_name

-- what is told of a core over a disk
abbrev pub told_of : {H : Type 0} → Ghosts H → H → DiskRest → Core → List ℕ → Pinned → Ledger → Told
told_of host now rest c regs pins k = record {
  tells = host.tells Work;
  speaks = host.tells Transcript;
  heap = heap_if (host.tells Work) (held c (disk_of host now rest)) k.next;
  regs = λ r. meant c.entries [] 0 (word_in regs r);
  slots = λ i. name_if c.entries (pin_in pins i);
  transcript = (host.roles now Transcript).put;
  cache = cache_of c (found k.rows) k.mark k.begun;
  refusals = k.refusals;
  last = k.last;
  bounds = Some (record { core = k.core; entries = k.entries; room = disk_room rest; base = k.base; made = k.made; work_faults = host.faults now Work; said_faults = host.faults now Transcript });
}

unfoldable pub loom_told : {H : Type 0} (host : Ghosts H) → LoomMemory H host → Told
loom_told host m = told_of host (loom_now m) (loom_rest m) (loom_core m) m.regs (loom_pins m) m.ledger

-- a slot's word is 0, or names an entry with a body
abbrev pub IsPinned : Core → ℕ → Type 0
IsPinned c w = w ≢ 0 → (is_short w ≡ true) × ((p : ℕ) × (place_of (c.entries w).state ≡ Some p))

-- what is kept of the parts, beside what their type keeps
pub record IsKept (p : Parts) (regs : List ℕ) (pins : Pinned) (k : Ledger) : Type 0 where
  pub size : size_of p.segment ≡ k.core
  pub entries : entries_of p.names.table ≡ k.entries
  pub rooted : (t : ℕ) → outside (core_of p) t ≡ count_by (names t) (in_hand regs pins.a pins.b pins.d)
  pub filled : (r : ℕ) → word_in regs r ≢ 0
  pub many : length regs ≡ REGISTERS
  pub pinned : (i : ℕ) → IsPinned (core_of p) (pin_in pins i)
  pub cached : IsCached (core_of p) (found k.rows) k.mark

-- and with the disk
pub record IsOver {H : Type 0} (host : Ghosts H) (now : H) (rest : DiskRest) (c : Core) (k : Ledger) : Type 0 where
  pub stands : HoldsObjects host now rest
  pub backed : IsTrue (host.tells Work) → IsBacked c (disk_of host now rest)
  pub counted : IsTrue (host.tells Work) → disk_held rest + fresh_of c ≡ k.held
  pub roomy : k.held ≤ disk_room rest
  pub based : IsNumbered k.base k.made k.held k.next (disk_room rest)
  pub valued : IsTrue (host.tells Work) → IsValued (held c (disk_of host now rest))

-- Where the host tells Work, parts and a disk stand for levels with this next name, whose counts are exact but for the words that are owed.
-- Their heap is the held heap, so this is what a call that frees, counts or makes goes by.
abbrev pub IsExact : {H : Type 0} → Ghosts H → Parts → H → DiskRest → ℕ → List Value → Type 0
IsExact host p now rest next owed = IsTrue (host.tells Work) → (t : Levels) × StandsFor host p now rest t × AreSound t owed × (t.next ≡ next)

-- ---- nothing is dead

-- an object is known, a register or a slot names it, or an object of the heap holds it
abbrev pub IsStillNamed : Told → ℕ → Type 0
IsStillNamed t n = (is_known n ≡ true) ⊎ ((is_root t n ≡ true) ⊎ (0 < count_of t.heap n))

-- so is each object of the heap, where that is told
abbrev pub NothingDead : Told → Type 0
NothingDead t = IsTrue t.tells → (n : ℕ) → Has t.heap n → IsStillNamed t n

-- the entry of a word is that of a known object, or some word of the core names it
abbrev pub IsNamedIn : Core → ℕ → Type 0
IsNamedIn c w = (is_known (c.entries w).name ≡ true) ⊎ (1 ≤ (c.entries w).refs)

-- where a memory is thinned, nothing is dead
unfoldable pub IsThin : {H : Type 0} (host : Ghosts H) → LoomMemory H host → Type 0
IsThin host m = m.thinned ≡ true → NothingDead (loom_told host m)

pub record IsSound {H : Type 0} (host : Ghosts H) (m : LoomMemory H host) : Type 0 where
  pub kept : IsKept (loom_parts m) m.regs (loom_pins m) m.ledger
  pub over : IsOver host (loom_now m) (loom_rest m) (loom_core m) m.ledger
  pub exact : IsExact host (loom_parts m) (loom_now m) (loom_rest m) m.ledger.next []
  -- From this name on, what is dead is looked for where room is short. It is at most so many names on, and each making takes every second one.
  pub soon : m.due ≤ m.ledger.next + m.ledger.entries / 8
  pub thin : IsThin host m

-- while these words are owed
pub record IsOwing {H : Type 0} (host : Ghosts H) (m : LoomMemory H host) (owed : List Value) : Type 0 where
  pub kept : IsKept (loom_parts m) m.regs (loom_pins m) m.ledger
  pub over : IsOver host (loom_now m) (loom_rest m) (loom_core m) m.ledger
  pub exact : IsExact host (loom_parts m) (loom_now m) (loom_rest m) m.ledger.next owed

-- What is outside: the roles that this memory has nothing to do with, and their faults; and of Work all but its contents, where that is told.
pub record Others : Type 0 where
  pub role : RoleState
  pub faults : ℕ

abbrev pub file_of : Bool → RoleState → RoleState
file_of true s = holds [] s
file_of false s = at_start

abbrev pub others_of : Bool → Role → RoleState → ℕ → Others
others_of told Work s n = record { role = file_of told s; faults = 0 }
others_of told Transcript s n = record { role = at_start; faults = 0 }
others_of told r s n = record { role = s; faults = n }

unfoldable pub loom_outside : {H : Type 0} (host : Ghosts H) → LoomMemory H host → Role → Others
loom_outside host m r = others_of (host.tells Work) r (host.roles (loom_now m) r) (host.faults (loom_now m) r)

-- an object was marked, and rows may have left
pub record IsMarking (old new : Told) (n : ℕ) : Type 0 where
  pub same : new ≡ (record old { cache = new.cache })
  pub cache : IsKeptCache no_names old.cache (with_mark old.cache (Some n)) new.cache

-- the method cache has the value of a register for the pair of two others
pub record IsRemembered {H : Type 0} {host : Ghosts H} (m : LoomMemory H host) (class selector method : ℕ) : Type 0 where
  pub lives : has_mark (loom_core m) m.ledger.mark ≡ true
  pub row : found m.ledger.rows (word_in m.regs class) (word_in m.regs selector) ≡ Some (word_in m.regs method)

-- the words that the objects of the slots take beside one that isn't there
abbrev pub words_beside : Core → Pinned → ℕ
words_beside c pins = over_three (room_for c) pins.a pins.b pins.d

abbrev pub entries_beside : Core → Pinned → ℕ
entries_beside c pins = over_three (entries_for c) pins.a pins.b pins.d

-- an access that says nothing
abbrev pub IsSilent : Access → Type 0
IsSilent (Say of) = ⊥
IsSilent a = Unit {0}

-- field i of the object of a register came into another
pub record IsTaken (t u : Told) (to of i : ℕ) : Type 0 where
  pub value : Value
  pub same : u ≡ (record t { bounds = u.bounds; cache = u.cache; regs = set_register t.regs to value })
  pub cache : LeavesCache no_names None t.cache t.cache u.cache
  pub bounds : SameBounds t.bounds u.bounds
  pub counts : Raised 0 t.bounds u.bounds
  pub brings : IsTrue t.tells → brought t.heap t.regs (Field to of i) ≡ Some value

-- a call was refused, for whatever it says of this access
abbrev pub IsRefused : Told → Told → Access → MemFault → Type 0
IsRefused t u a f = IsLater t u × Refuses t u (Does a) f

-- a field was stored
pub record IsStoredIn (t u : Told) (of i from : ℕ) : Type 0 where
  pub heap : Heap
  pub same : u ≡ (record t { heap = heap; cache = u.cache })
  pub cache : LeavesCache (touched_by t.regs (SetField of i from)) None t.cache t.cache u.cache
  pub stored : IsTrue t.tells → heap ≡ heap_after t.heap t.regs (SetField of i from)

-- a fault of the disk as a refusal
abbrev pub IsRefusalOf : DiskFault → MemFault → Type 0
IsRefusalOf (fault.Work count) r = r ≡ WorkFault count
IsRefusalOf (fault.Full held room) r = r ≡ Damaged NOWHERE 0
IsRefusalOf (fault.Damaged place about) r = r ≡ Damaged place about

-- ---- what the object of a call needs

-- the words of the row of an object of so many words, whose entry is s
abbrev pub words_in_row : Core → Pinned → ℕ → ℕ → ℕ
words_in_row c pins s words =
    words
    + (if pins.a == s then 0 else room_for c pins.a)
    + (if (pins.b == s) || (pins.b == pins.a) then 0 else room_for c pins.b)
    + (if (pins.d == s) || ((pins.d == pins.a) || (pins.d == pins.b)) then 0 else room_for c pins.d)

-- the need of its row
pub record IsNeed (c : Core) (pins : Pinned) (s words : ℕ) (need : Need) : Type 0 where
  pub object : need.object ≡ (c.entries s).name
  pub all : need.words ≡ words_in_row c pins s words
  pub entries : need.entries ≡ ENTRIES_OF_A_CALL + over_three (entries_for c) pins.a pins.b pins.d

-- an object of so many words was read, which is that of the disk where it is told
pub record IsSized (told : Bool) (x : Option Object) (words : ℕ) : Type 0 where
  pub object : Object
  pub sized : 4 + body_words object.body ≡ words
  pub there : IsTrue told → x ≡ Some object

-- the buffer has the record of a name, of an object of so many words, which is that of the disk where it is told
pub record IsRead (told : Bool) (bytes : List ℕ) (disk : Disk) (name words : ℕ) : Type 0 where
  pub record_there : HasRecord bytes
  pub named : (raw_of bytes).name ≡ name
  pub sized : 4 + body_words (object_in (raw_of bytes)).body ≡ words
  pub there : IsTrue told → disk name ≡ Some (object_in (raw_of bytes))

-- a call was refused, for every silent access whose register has this name
abbrev pub IsRefusedAt : Told → Told → ℕ → MemFault → Type 0
IsRefusedAt t u n f = (a : Access) (of : ℕ) → target_of a ≡ Some of → t.regs of ≡ Ref n → IsSilent a → makes a ≡ 0 → IsRefused t u a f
