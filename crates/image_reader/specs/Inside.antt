-- What loading and its parts speak of.
use Rattle.std.specs.Prelude.{◌≡◌, ℕ, ◌+◌, ◌-◌, ◌*◌, ◌<◌, ◌≤◌, ◌^◌, ◌&&◌, ◌==◌, nat_lt, not, if◌then◌else◌, Bool, false, IsTrue, List, [], ◌∷◌, ◌++◌, All, Option, None, Some, Result, Ok, Err, length, take, drop}
use Rattle.long_names.specs.Counting.{Rose}
use Rattle.long_names.specs.Objects.{IsRecord}
use Rattle.long_names.specs.declared.limits.TheConstants.{LONGEST_RECORD}
use Rattle.long_names.specs.declared.object.Rec.{Rec}
use Rattle.long_names.specs.Record.{record_text}
use Rattle.object_record.specs.Buffer.{HasRecord, raw_of}
use Rattle.object_record.specs.Raw.{raw_record}
use Rattle.image_format.specs.declared.reading.RecMeasure.{RecMeasure}
use Rattle.loom_host.specs.declared.outside.DiskFault.TheVariants as disk
use Rattle.loom_host.specs.declared.outside.Host.{Ghosts}
use Rattle.loom_host.specs.declared.outside.Role.TheVariants.{Image, Work}
use Rattle.image_format.specs.declared.fault.Halt.{Halt}
use Rattle.image_format.specs.declared.fault.RecFault.{RecFault}
use Rattle.image_format.specs.declared.fault.RecFault.TheVariants as rec_fault
use Rattle.image_format.specs.declared.head.TheConstants.{HEAD_LEN}
use Rattle.image_format.specs.declared.opening.TheConstants.{STATE_LEN, STATE_VERSION}
use Rattle.image_format.specs.declared.opening.ImageHead.{ImageHead}
use Rattle.image_format.specs.declared.opening.Opening.{Opening}
use Rattle.image_format.specs.Heads.{head_at}
use Rattle.image_format.specs.Rules.{next_record_at, records_at, rec_in}
use Rattle.disk_objects.specs.declared.rest.DiskRest.{DiskRest}
use Rattle.disk_objects.specs.Disk.{disk_held}
use Rattle.image_reader.specs.declared.fault.LoadFault.{LoadFault}
use Rattle.image_reader.specs.declared.fault.LoadFault.TheVariants.{Bad, Read, Disk, Memory}
use Rattle.image_reader.specs.Window.{AreBytes, Ahead, unused, file_end}
use Rattle.image_reader.specs.Frames.{IsHalted}
use Rattle.image_reader.specs.Names.{IsRising}
use Rattle.image_reader.specs.Loaded.{IsStored, full_of, names_of, stated_by}

-- ---- faults

abbrev pub fault_at : ℕ → RecFault → LoadFault
fault_at place (rec_fault.Bad rule at) = Bad rule (place + at)
fault_at place rec_fault.Memory = Memory

-- why no bytes came
abbrev pub IsFillFault : {H : Type 0} → Ghosts H → H → H → LoadFault → Type 0
IsFillFault host old new (Bad rule place) = ⊥
IsFillFault host old new (Read count) = (count ≡ host.faults new Image) × Rose (host.faults old Image) (host.faults new Image)
IsFillFault host old new (Disk f) = ⊥
IsFillFault host old new Memory = Unit {0}

-- a rule broke; no memory is taken
abbrev pub IsRuleFault : LoadFault → Type 0
IsRuleFault (Bad rule place) = Unit {0}
IsRuleFault (Read count) = ⊥
IsRuleFault (Disk f) = ⊥
IsRuleFault Memory = ⊥

-- ---- the head

-- how many bytes the head of this version has
abbrev pub head_len : Opening → ℕ
head_len o = if o.version == STATE_VERSION then HEAD_LEN + STATE_LEN else HEAD_LEN

-- a head was read of some bytes
pub record IsSeen (head : ImageHead) : Type 0 where
  pub bytes : List ℕ
  pub rest : List ℕ
  pub range : All (λ (b : ℕ). b < 2 ^ 8) bytes
  pub read : head_at bytes ≡ Ok (head, rest)

-- why the head of these bytes was refused: Bad has the first rule that it breaks where its objects have room, and Full what it states where they have none
abbrev pub IsHeadFault : ℕ → List ℕ → LoadFault → Type 0
IsHeadFault room bytes (Bad rule place) = IsHalted (length bytes) (head_at bytes) (Bad rule place) × (full_of room bytes ≡ None)
IsHeadFault room bytes (Read count) = ⊥
IsHeadFault room bytes (Disk (disk.Work count)) = ⊥
IsHeadFault room bytes (Disk (disk.Full held most)) = (most ≡ room) × (full_of room bytes ≡ Some held)
IsHeadFault room bytes (Disk (disk.Damaged place name)) = ⊥
IsHeadFault room bytes Memory = ⊥

-- ---- a record

-- the name that was read
abbrev pub name_in : Result (ℕ × List ℕ) Halt → Option ℕ
name_in (Ok n) = Some n.0
name_in (Err h) = None

-- a name that isn't above the one before it and below the next name
abbrev pub is_out_of_order : ℕ → ℕ → Option ℕ → Bool
is_out_of_order last next (Some n) = not (nat_lt last n && nat_lt n next)
is_out_of_order last next None = false

-- the bytes begin with the next record, and this is what it states
pub record IsNext (last next : ℕ) (bytes : List ℕ) (m : RecMeasure) : Type 0 where
  pub rec : Rec
  pub is : IsRecord rec × (last < rec.name) × (rec.name < next)
  pub read : next_record_at last next bytes ≡ Ok (rec, drop m.len bytes)
  pub text : take m.len bytes ≡ record_text rec
  pub within : m.len ≤ length bytes
  pub longest : m.len ≤ LONGEST_RECORD
  pub named : m.name ≡ rec.name
  pub stated : m.count ≡ rec.count

-- it was taken from the bytes, and stands in the buffer
pub record IsTaken (last next : ℕ) (old new buf : List ℕ) (m : RecMeasure) : Type 0 where
  pub rec : Rec
  pub is : IsRecord rec × (last < rec.name) × (rec.name < next)
  pub read : next_record_at last next old ≡ Ok (rec, new)
  pub buffer : HasRecord buf × (raw_of buf ≡ raw_record rec)
  pub named : m.name ≡ rec.name
  pub stated : m.count ≡ rec.count

-- the next record was read and put to the disk with the count that it states; this is its name, and this the count
pub record TakesRecord {H : Type 0} (host : Ghosts H) (old new : H) (rest after : DiskRest) (w v : Ahead) (last next name count : ℕ) : Type 0 where
  pub rec : Rec
  pub is : IsRecord rec
  pub named : name ≡ rec.name
  pub stated : count ≡ rec.count
  pub above : last < rec.name
  pub below : rec.name < next
  pub read : IsTrue (host.tells Image) → next_record_at last next (unused w (host.roles old Image)) ≡ Ok (rec, unused v (host.roles new Image))
  pub end : IsTrue (host.tells Image) → file_end v (host.roles new Image).left ≡ file_end w (host.roles old Image).left
  pub bytes : IsTrue (host.tells Image) → AreBytes (unused v (host.roles new Image)) → AreBytes (unused w (host.roles old Image))
  pub near : v.place ≤ w.place + LONGEST_RECORD
  pub stored : IsTrue (host.tells Work) → (recs : List Rec) → rec_in recs rec.name ≡ None → IsStored host old rest recs → IsStored host new after (recs ++ rec ∷ [])
  pub held : disk_held after ≤ disk_held rest + 1

-- ---- the records

-- Each is a record below the next name. Their names rise up to the last, so that each record is the one of its name.
pub record AreListed (recs : List Rec) (last next : ℕ) : Type 0 where
  pub records : All IsRecord recs
  pub below : All (λ (r : Rec). r.name < next) recs
  pub rising : IsRising (names_of recs)
  pub highest : All (λ (n : ℕ). n ≤ last) (names_of recs)
  pub none : (q : ℕ) → last < q → rec_in recs q ≡ None
  pub own : All (λ (r : Rec). rec_in recs r.name ≡ Some r) recs

-- so many records were read and put to the disk with the counts that they state; these are their names, and these the counts
pub record TakesRecords {H : Type 0} (host : Ghosts H) (old new : H) (after : DiskRest) (w v : Ahead) (count next : ℕ) (names stated : List ℕ) : Type 0 where
  pub recs : List Rec
  pub last : ℕ
  pub names_are : names ≡ names_of recs
  pub stated_are : stated ≡ stated_by recs
  pub many : length names ≡ count
  pub listed : AreListed recs last next
  pub read : IsTrue (host.tells Image) → records_at count 0 next (unused w (host.roles old Image)) ≡ Ok (recs, unused v (host.roles new Image))
  pub end : IsTrue (host.tells Image) → file_end v (host.roles new Image).left ≡ file_end w (host.roles old Image).left
  pub bytes : IsTrue (host.tells Image) → AreBytes (unused v (host.roles new Image)) → AreBytes (unused w (host.roles old Image))
  pub stored : IsTrue (host.tells Work) → IsStored host new after recs

-- these records, and then what this reading gives
abbrev pub with_front : List Rec → Result (List Rec × List ℕ) Halt → Result (List Rec × List ℕ) Halt
with_front recs (Ok x) = Ok (recs ++ x.0, x.1)
with_front recs (Err h) = Err h

-- the first i of so many records were read and put, and these are their names and the counts that they state
pub record IsReading {H : Type 0} (host : Ghosts H) (old new : H) (after : DiskRest) (w v : Ahead) (count i last next : ℕ) (names stated : List ℕ) : Type 0 where
  pub recs : List Rec
  pub names_are : names ≡ names_of recs
  pub stated_are : stated ≡ stated_by recs
  pub many : length names ≡ i
  pub listed : AreListed recs last next
  pub read : IsTrue (host.tells Image) → records_at count 0 next (unused w (host.roles old Image)) ≡ with_front recs (records_at (count - i) last next (unused v (host.roles new Image)))
  pub end : IsTrue (host.tells Image) → file_end v (host.roles new Image).left ≡ file_end w (host.roles old Image).left
  pub bytes : IsTrue (host.tells Image) → AreBytes (unused v (host.roles new Image)) → AreBytes (unused w (host.roles old Image))
  pub near : v.place ≤ 36 + LONGEST_RECORD * i
  pub held : disk_held after ≤ i
  pub stored : IsTrue (host.tells Work) → IsStored host new after recs
