-- What a call asks of Work, what it answers, and why it failed.
use Rattle.std.specs.Prelude.{◌≡◌, ◌⊎◌, ℕ, ℤ, pos, ◌+ℤ◌, unsigned_abs, List, [], ◌∷◌, Bool, true, false, IsTrue, IsSome, Option, None, Some}
use Rattle.std.specs.Int.{w64, FitsUnsigned}
use Rattle.std.specs.FinMap as map
use Rattle.loom_host.specs.declared.outside.DiskFault.{DiskFault}
use Rattle.loom_host.specs.declared.outside.DiskFault.TheVariants as fault
use Rattle.loom_host.specs.declared.outside.Host.{Ghosts}
use Rattle.loom_host.specs.declared.outside.Role.TheVariants.{Work}
use Rattle.long_names.specs.Counting.{Rose}
use Rattle.object_record.specs.Buffer.{HasRecord, raw_of}
use Rattle.object_record.specs.Raw.{RawRecord, with_name}
use Rattle.disk_objects.specs.Places.{IsSlotPlace, IsPutDamage}
use Rattle.loom_host.specs.Work.{work_of, IsWorkRead}
use Rattle.work_space.specs.Blocks.{times}
use Rattle.disk_objects.specs.declared.names.NamesFault.{NamesFault}
use Rattle.disk_objects.specs.declared.names.NamesFault.TheVariants.{Disk, Memory}
use Rattle.disk_objects.specs.declared.rest.DiskRest.{DiskRest}
use Rattle.disk_objects.specs.Disk.{Objects, DiskObject, IsDisk, disk_held, disk_room, with_count}

-- ---- what is asked

-- Where the host tells Work, objects and pending names stand there of which this is so.
abbrev pub HoldsSuch : {H : Type 0} → Ghosts H → H → DiskRest → (Objects → List ℕ → Type 0) → Type 0
HoldsSuch host now rest P = IsTrue (host.tells Work) → (objects : Objects) × (pending : List ℕ) × IsDisk rest (work_of host now) objects pending × P objects pending

abbrev pub HoldsObjects : {H : Type 0} → Ghosts H → H → DiskRest → Type 0
HoldsObjects host now rest = HoldsSuch host now rest (λ objects pending. Unit {0})

-- a name is held
abbrev pub IsHeldName : ℕ → Objects → List ℕ → Type 0
IsHeldName name objects pending = IsSome (map.get objects name)

-- both names are held
abbrev pub AreHeldNames : ℕ → ℕ → Objects → List ℕ → Type 0
AreHeldNames a b objects pending = IsSome (map.get objects a) × IsSome (map.get objects b)

-- a name is held and not pending
abbrev pub IsIdle : ℕ → Objects → List ℕ → Type 0
IsIdle name objects pending = IsSome (map.get objects name) × (times name pending ≡ 0)

-- a count after a change
abbrev pub changed_by : ℕ → ℤ → ℕ
changed_by count change = unsigned_abs (pos count +ℤ change)

-- a name is held, and with this change its count is from 0 to the greatest u64
abbrev pub CanChange : ℕ → ℤ → Objects → List ℕ → Type 0
CanChange name change objects pending = (o : DiskObject) × (map.get objects name ≡ Some o) × FitsUnsigned w64 (pos o.count +ℤ change)

-- ---- what is answered

-- a buffer has the record of an object, but for the count
pub record HasObject (bytes : List ℕ) (o : DiskObject) : Type 0 where
  pub record_there : HasRecord bytes
  pub raw_is : with_count (raw_of bytes) 0 ≡ o.raw

-- true where the name is held, and then its record is in the buffer
abbrev pub IsGot : List ℕ → Option DiskObject → Bool → Type 0
IsGot bytes None true = ⊥
IsGot bytes None false = Unit {0}
IsGot bytes (Some o) true = HasObject bytes o
IsGot bytes (Some o) false = ⊥

-- None where none is pending, or the first of those that are; this is so of the others
abbrev pub TookFirst : List ℕ → (List ℕ → Type 0) → Option ℕ → Type 0
TookFirst pending P None = (pending ≡ []) × P []
TookFirst pending P (Some name) = (others : List ℕ) × (pending ≡ name ∷ others) × P others

-- an object under another name and with another count
abbrev pub renamed : DiskObject → ℕ → ℕ → DiskObject
renamed o name count = record { raw = with_name o.raw name; count = count }

-- the records of two names exchanged; each name keeps its count
abbrev pub swapped_by : Objects → ℕ → ℕ → Option DiskObject → Option DiskObject → Objects
swapped_by objects a b (Some o) (Some p) = map.insert (map.insert objects a (renamed p a o.count)) b (renamed o b p.count)
swapped_by objects a b (Some o) None = objects
swapped_by objects a b None p = objects

abbrev pub swapped : Objects → ℕ → ℕ → Objects
swapped objects a b = swapped_by objects a b (map.get objects a) (map.get objects b)

-- ---- why a call failed

-- A call that was asked about this name failed: a call on Work failed, and this is the count of its faults, which rose; or what was
-- read at such a place of Work, of a host that doesn't tell it, can't be so.
abbrev pub IsFault : Bool → ℕ → ℕ → (ℕ → Type 0) → ℕ → DiskFault → Type 0
IsFault tells before now P name (fault.Work count) = (count ≡ now) × Rose before now
IsFault tells before now P name (fault.Full held room) = ⊥
IsFault tells before now P name (fault.Damaged place about) = (IsTrue tells → ⊥) × P place × (about ≡ name)

-- the same of a call that was asked about two names
abbrev pub IsEitherFault : Bool → ℕ → ℕ → (ℕ → Type 0) → ℕ → ℕ → DiskFault → Type 0
IsEitherFault tells before now P a b f = IsFault tells before now P a f ⊎ IsFault tells before now P b f

-- as many names are held as there is room for, and this one isn't; nothing was changed
pub record IsFull {H : Type 0} (host : Ghosts H) (old new : H) (rest after : DiskRest) (name held room : ℕ) : Type 0 where
  pub held_is : held ≡ disk_held rest
  pub room_is : room ≡ disk_room rest
  pub all : disk_held rest ≡ disk_room rest
  pub absent : IsTrue (host.tells Work) → (objects : Objects) (pending : List ℕ) → IsDisk rest (work_of host old) objects pending → map.get objects name ≡ None
  pub rest_same : after ≡ rest
  pub read : IsWorkRead host old new

-- why a put failed
abbrev pub IsPutFault : {H : Type 0} → Ghosts H → H → H → DiskRest → DiskRest → RawRecord → DiskFault → Type 0
IsPutFault host old new rest after raw (fault.Work count) = (count ≡ host.faults new Work) × Rose (host.faults old Work) (host.faults new Work)
IsPutFault host old new rest after raw (fault.Full held room) = IsFull host old new rest after raw.name held room
IsPutFault host old new rest after raw (fault.Damaged place about) = (IsTrue (host.tells Work) → ⊥) × IsPutDamage rest raw place about

-- why a read of slots failed
abbrev pub IsSlotsFault : Bool → ℕ → ℕ → DiskRest → DiskFault → Type 0
IsSlotsFault tells before now rest (fault.Work count) = (count ≡ now) × Rose before now
IsSlotsFault tells before now rest (fault.Full held room) = ⊥
IsSlotsFault tells before now rest (fault.Damaged place about) = (IsTrue tells → ⊥) × IsSlotPlace rest place

-- why names aren't told
abbrev pub IsNamesFault : Bool → ℕ → ℕ → DiskRest → NamesFault → Type 0
IsNamesFault tells before now rest (Disk f) = IsSlotsFault tells before now rest f
IsNamesFault tells before now rest Memory = Unit {0}
