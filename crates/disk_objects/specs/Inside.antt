-- What the functions inside say of records in Work, and of names.
use Rattle.std.specs.Prelude.{◌≡◌, ◌≢◌, ◌⊎◌, ℕ, ◌+◌, ◌%◌, ◌<◌, ◌≤◌, List, length, ◌++◌, take, drop, max, Bool, IsTrue, Option, None, Some, Result, Ok, Err, nat_le, if◌then◌else◌, ◌==◌}
use Rattle.std.specs.List.{list_any}
use Rattle.std.specs.FinMap as map
use Rattle.byteorder.specs.Endian.{big_bytes}
use Rattle.long_names.specs.Counting.{Rose}
use Rattle.long_names.specs.Names.{IsLongName}
use Rattle.long_names.specs.Record.{padding}
use Rattle.loom_host.specs.Bytes.{window}
use Rattle.loom_host.specs.declared.outside.DiskFault.{DiskFault}
use Rattle.loom_host.specs.declared.outside.DiskFault.TheVariants as fault
use Rattle.long_names.specs.declared.limits.TheConstants.{LONGEST_RECORD}
use Rattle.object_record.specs.declared.offsets.TheConstants.{CONTENTS_AT, COUNT_AT, KIND_AT, LITERALS_AT}
use Rattle.work_directory.specs.Slots.{slot_place}
use Rattle.work_space.specs.declared.limits.TheConstants.{LAST_END}
use Rattle.object_record.specs.Raw.{RawRecord}
use Rattle.object_record.specs.Inside.{end_stated}
use Rattle.work_directory.specs.Directory.{entries_of, EndsAt, StandsAt}
use Rattle.work_space.specs.Blocks.{link_at}
use Rattle.work_space.specs.Space.{Takes}
use Rattle.work_space.specs.declared.space.Space.{Space}
use Rattle.disk_objects.specs.declared.rest.DiskRest.{DiskRest}
use Rattle.disk_objects.specs.declared.rest.Held.{Held}
use Rattle.disk_objects.specs.declared.rest.HeldSlot.{HeldSlot}
use Rattle.disk_objects.specs.declared.rest.FoundObject.{FoundObject}
use Rattle.disk_objects.specs.declared.rest.FoundObject.TheVariants as found_object
use Rattle.loom_host.specs.declared.outside.Host.{Ghosts}
use Rattle.work_directory.specs.declared.directory.Found.{Found}
use Rattle.work_directory.specs.declared.directory.Found.TheVariants as found
use Rattle.disk_objects.specs.Places.{IsBlockPlace, IsPutDamage}
use Rattle.disk_objects.specs.declared.record.Head.{Head}
use Rattle.disk_objects.specs.Disk.{IsSizeClass, IsLaid, IsOwned, AreKept, Objects, record_size}

-- how many bytes a record has that begins with these
abbrev pub size_stated_in : List ℕ → ℕ
size_stated_in bytes = end_stated bytes + padding (end_stated bytes)

-- the bytes of a record, with this link where they have their count
abbrev pub linked : List ℕ → ℕ → List ℕ
linked bytes link = take COUNT_AT bytes ++ (big_bytes 8 link ++ drop KIND_AT bytes)

-- what the first bytes of a record at a place say
pub record IsHead (work : List ℕ) (place : ℕ) (head : Head) : Type 0 where
  pub link : head.link ≡ link_at work (place + COUNT_AT)
  pub size : head.size ≡ size_stated_in (window work place LITERALS_AT)

-- a record may have so many bytes
pub record IsRecordSize (size : ℕ) : Type 0 where
  pub least : CONTENTS_AT ≤ size
  pub most : size ≤ LONGEST_RECORD
  pub fours : size % 4 ≡ 0

-- the size of a record that can be one, and the size class of its block
pub record IsSizedHead (head : Head) : Type 0 where
  pub size : IsRecordSize head.size
  pub class : IsSizeClass head.class head.size

-- at most these bytes were changed
pub record Touches (old new : List ℕ) (place size : ℕ) : Type 0 where
  pub rest : (at n : ℕ) → (at + n ≤ place) ⊎ (place + size ≤ at) → window new at n ≡ window old at n
  pub end : length new ≤ max (length old) (place + size)

-- a record was written to a place, with this link
pub record Writes (old new : List ℕ) (place : ℕ) (raw : RawRecord) (link : ℕ) : Type 0 where
  pub laid : IsLaid new place raw link
  pub touches : Touches old new place (record_size raw)

-- a record was written into a block of its size class that was taken for it
pub record Stores (old new : Space) (work now laid : List ℕ) (out : ℕ → Option ℕ) (raw : RawRecord) (link place : ℕ) : Type 0 where
  pub class : ℕ
  pub is_class : IsSizeClass class (record_size raw)
  pub takes : Takes old new work laid out class place
  pub writes : Writes work now place raw link

-- why a read of a record's first bytes failed
abbrev pub IsHeadFault : List ℕ → Bool → ℕ → ℕ → ℕ → ℕ → DiskFault → Type 0
IsHeadFault work tells before now place name (fault.Work count) = (count ≡ now) × Rose before now
IsHeadFault work tells before now place name (fault.Full held room) = ⊥
IsHeadFault work tells before now place name (fault.Damaged at about) =
    (IsTrue tells → LONGEST_RECORD < size_stated_in (window work place LITERALS_AT)) × (at ≡ place) × (about ≡ name)

-- why a read of a record failed
abbrev pub IsRecordFault : ℕ → ℕ → ℕ → ℕ → DiskFault → Type 0
IsRecordFault before now place name (fault.Work count) = (count ≡ now) × Rose before now
IsRecordFault before now place name (fault.Full held room) = ⊥
IsRecordFault before now place name (fault.Damaged at about) = (at ≡ place) × (about ≡ name)

-- why a read of a link failed
abbrev pub IsLinkFault : ℕ → Bool → ℕ → ℕ → ℕ → ℕ → DiskFault → Type 0
IsLinkFault link tells before now place name (fault.Work count) = (count ≡ now) × Rose before now
IsLinkFault link tells before now place name (fault.Full held room) = ⊥
IsLinkFault link tells before now place name (fault.Damaged at about) =
    (IsTrue tells → (link ≢ 0) × (IsLongName link → ⊥)) × (at ≡ place) × (about ≡ name)

-- why a store failed: Damaged tells the block that would have been taken
abbrev pub IsStoreFault : Space → RawRecord → ℕ → ℕ → DiskFault → Type 0
IsStoreFault space raw before now (fault.Work count) = (count ≡ now) × Rose before now
IsStoreFault space raw before now (fault.Full held room) = ⊥
IsStoreFault space raw before now (fault.Damaged at about) = IsBlockPlace space raw at × (about ≡ 0)

-- why a step of a put failed
abbrev pub IsStepFault : Bool → ℕ → ℕ → DiskRest → RawRecord → DiskFault → Type 0
IsStepFault tells before now rest raw (fault.Work count) = (count ≡ now) × Rose before now
IsStepFault tells before now rest raw (fault.Full held room) = ⊥
IsStepFault tells before now rest raw (fault.Damaged at about) = (IsTrue tells → ⊥) × IsPutDamage rest raw at about

-- ---- slots that searches found

-- what a search found; a slot whose place can't be one is damage there
abbrev pub check_place : Found → ℕ → Result Found DiskFault
check_place (found.Held at slot) name = if nat_le slot.place LAST_END then Ok (found.Held at slot) else Err (fault.Damaged (slot_place at) name)
check_place (found.Vacant at) name = Ok (found.Vacant at)

-- the place of a slot that was found can be one
abbrev pub IsPlaced : Found → Type 0
IsPlaced (found.Held at slot) = slot.place ≤ LAST_END
IsPlaced (found.Vacant at) = Unit {0}

-- the slot of a name that is to be held; damage is told of the slot where the search ended
abbrev pub held_slot : Found → ℕ → Result HeldSlot DiskFault
held_slot (found.Held at slot) name =
    if nat_le slot.place LAST_END then Ok (record { at = at; slot = slot }) else Err (fault.Damaged (slot_place at) name)
held_slot (found.Vacant at) name = Err (fault.Damaged (slot_place at) name)

-- the directory has this under a name, and its record's head says this
pub record IsHeld (rest : DiskRest) (work : List ℕ) (name : ℕ) (held : Held) : Type 0 where
  pub entry : map.get (entries_of rest.directory work) name ≡ Some (record { count = held.count; place = held.place })
  pub head : IsHead work held.place held.head

-- what was found of a name, vacant where it isn't held
abbrev pub IsFound : DiskRest → List ℕ → ℕ → FoundObject → Type 0
IsFound rest work name (found_object.Vacant at) = map.get (entries_of rest.directory work) name ≡ None
IsFound rest work name (found_object.Held held) = IsHeld rest work name held

-- the search for the name ends there
abbrev pub SearchEnds : {H : Type 0} → Ghosts H → H → DiskRest → ℕ → FoundObject → Type 0
SearchEnds host now rest name (found_object.Vacant at) = EndsAt host now rest.directory name (found.Vacant at)
SearchEnds host now rest name (found_object.Held held) = StandsAt host now rest.directory name held.at

pub record IsSizedHeld (held : Held) : Type 0 where
  pub place : held.place ≤ LAST_END
  pub head : IsSizedHead held.head

abbrev pub IsSizedFound : FoundObject → Type 0
IsSizedFound (found_object.Vacant at) = Unit {0}
IsSizedFound (found_object.Held held) = IsSizedHeld held

-- a disk with one block more, of this place and size class, that no name has
pub record IsOpen (rest : DiskRest) (work : List ℕ) (objects : Objects) (pending : List ℕ) (spare class : ℕ) : Type 0 where
  pub laid : List ℕ
  pub out : ℕ → Option ℕ
  pub link : ℕ → ℕ
  pub kept : AreKept rest.directory rest.space rest.first work laid out link objects pending
  pub owned : (p c : ℕ) → out p ≡ Some c → p ≢ spare → IsOwned (entries_of rest.directory work) p
  pub spare_out : out spare ≡ Some class
  pub spare_free : IsOwned (entries_of rest.directory work) spare → ⊥

-- ---- names

-- one of these is the name
abbrev pub is_noted : List ℕ → ℕ → Bool
is_noted names q = list_any (λ n. n == q) names
