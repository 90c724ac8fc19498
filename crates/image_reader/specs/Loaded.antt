-- What loading an image leaves on a disk, and what it answers.
use Rattle.std.specs.Prelude.{◌≡◌, ℕ, ◌<◌, ◌≤◌, ◌⊎◌, ◌&&◌, ◌||◌, ◌==◌, nat_lt, nat_le, Bool, true, IsTrue, List, [], All, map, Option, None, Some, option_map, Result, Ok, Err, length, if◌then◌else◌}
use Rattle.long_names.specs.declared.object.Rec.{Rec}
use Rattle.long_names.specs.Objects.{IsRecord}
use Rattle.long_names.specs.Heap.{Heap, Has, count_of}
use Rattle.loom_host.specs.declared.outside.DiskFault.TheVariants as disk
use Rattle.loom_host.specs.declared.outside.Host.{Ghosts}
use Rattle.loom_host.specs.declared.outside.Role.TheVariants.{Image, Work}
use Rattle.loom_host.specs.Work.{work_of}
use Rattle.image_format.specs.declared.fault.Break.{Break}
use Rattle.image_format.specs.declared.fault.Halt.{Halt}
use Rattle.image_format.specs.declared.opening.Opening.{Opening}
use Rattle.image_format.specs.declared.opening.ImageHead.{ImageHead}
use Rattle.image_format.specs.Heads.{opening_at, is_version, is_count, is_next, is_state_word, is_tick}
use Rattle.image_format.specs.Valid.{IsImageHeap}
use Rattle.image_format.specs.Rules as rules
use Rattle.image_format.specs.Rules.{image_at, whole_break, first_break, break, rec_in, object_in}
use Rattle.disk_objects.specs.declared.rest.DiskRest.{DiskRest}
use Rattle.disk_objects.specs.Disk.{IsDisk, Objects}
use Rattle.disk_objects.specs.Function.{disk_of, counts_of}
use Rattle.image_reader.specs.declared.fault.LoadFault.{LoadFault}
use Rattle.image_reader.specs.declared.fault.LoadFault.TheVariants.{Bad, Read, Disk, Memory}
use Rattle.image_reader.specs.Frames.{IsPartFault}
use Rattle.image_reader.specs.Names.{IsRising}
use Rattle.image_reader.specs.Window.{AreBytes}

-- ---- room

-- The number of objects that an image states, where it is more than there is room for: the first 16 bytes keep the rules 1 to 3.
abbrev pub too_many : ℕ → Result (Opening × List ℕ) Halt → Option ℕ
too_many room (Ok x) = if nat_lt room x.0.objects then Some x.0.objects else None
too_many room (Err h) = None

abbrev pub full_of : ℕ → List ℕ → Option ℕ
full_of room bytes = too_many room (opening_at bytes)

-- ---- what was loaded

-- the names of records
abbrev pub names_of : List Rec → List ℕ
names_of recs = map (λ (r : Rec). r.name) recs

-- the counts that records state
abbrev pub stated_by : List Rec → List ℕ
stated_by recs = map (λ (r : Rec). r.count) recs

-- the count that the record of a name states
abbrev pub stated_in : List Rec → ℕ → Option ℕ
stated_in recs n = option_map (λ (r : Rec). r.count) (rec_in recs n)

-- the disk holds the objects of these records with the counts that they state, and none is pending
pub record IsStored {H : Type 0} (host : Ghosts H) (now : H) (rest : DiskRest) (recs : List Rec) : Type 0 where
  pub objects : Objects
  pub is : IsDisk rest (work_of host now) objects []
  pub at : disk_of host now rest ≡ object_in recs
  pub counts : counts_of host now rest ≡ stated_in recs

abbrev pub heap_on : {H : Type 0} → Ghosts H → H → DiskRest → ℕ → Heap
heap_on host now rest next = record { at = disk_of host now rest; next = next }

-- a head that keeps the rules 2, 3 and 13
pub record KeepsRules (h : ImageHead) : Type 0 where
  pub version : is_version h.opening.version ≡ true
  pub objects : is_count h.opening.objects ≡ true
  pub next : is_next h.opening.next ≡ true
  pub display : is_state_word h.opening.next h.state.display ≡ true
  pub input : is_state_word h.opening.next h.state.input ≡ true
  pub timer : is_state_word h.opening.next h.state.timer ≡ true
  pub tick : is_tick h.state.timer h.state.tick ≡ true

-- An image was loaded: the bytes of Image are this one and were read to their end, its records are on the disk, and no rule breaks.
pub record Loads {H : Type 0} (host : Ghosts H) (old new : H) (room : ℕ) (rest : DiskRest) (x : rules.Image) : Type 0 where
  pub read : IsTrue (host.tells Image) → image_at (host.roles old Image).left ≡ Ok (x, [])
  pub fits : IsTrue (host.tells Image) → full_of room (host.roles old Image).left ≡ None
  pub end : IsTrue (host.tells Image) → (host.roles new Image).left ≡ []
  pub bytes : IsTrue (host.tells Image) → AreBytes (host.roles old Image).left
  pub head : KeepsRules x.head
  pub roomy : x.head.opening.objects ≤ room
  pub many : length x.recs ≡ x.head.opening.objects
  pub records : All IsRecord x.recs
  pub below : All (λ (r : Rec). r.name < x.head.opening.next) x.recs
  pub rising : IsRising (names_of x.recs)
  pub stored : IsTrue (host.tells Work) → IsStored host new rest x.recs
  pub whole : IsTrue (host.tells Work) → whole_break x ≡ None

-- the objects of a disk are the heap of an image, and each count is the number of words of the heap that are the name
pub record IsLoadedHeap {H : Type 0} (host : Ghosts H) (now : H) (rest : DiskRest) (next : ℕ) : Type 0 where
  pub is : IsImageHeap (heap_on host now rest next)
  pub counts : (n : ℕ) → Has (heap_on host now rest next) n → counts_of host now rest n ≡ Some (count_of (heap_on host now rest next) n)

-- ---- why none was loaded

-- a refusal for a rule has the first that breaks, where there is room
abbrev pub IsBroken : ℕ → List ℕ → Break → Type 0
IsBroken room bytes b = (full_of room bytes ≡ None) × (first_break bytes ≡ Some b)

-- bytes that no image can be read of: a rule of 1 to 9 or 13 breaks
abbrev pub IsUnread : List ℕ → Type 0
IsUnread bytes = (h : Halt) × (image_at bytes ≡ Err h)

-- the rules that are judged of the whole image
abbrev pub is_of_whole : ℕ → Bool
is_of_whole rule = nat_le 10 rule && (nat_le rule 12 || rule == 14)

-- Bad has the first rule that breaks, where the host tells Image and the objects have room; one of the whole image where Work is told too, or no image can be read. Full comes for the stated number of objects alone.
abbrev pub IsLoadFault : {H : Type 0} → Ghosts H → H → H → ℕ → LoadFault → Type 0
IsLoadFault host old new room (Bad rule place) = IsTrue (host.tells Image) → (IsTrue (is_of_whole rule) → IsTrue (host.tells Work) ⊎ IsUnread (host.roles old Image).left) → IsBroken room (host.roles old Image).left (break rule place)
IsLoadFault host old new room (Read count) = IsPartFault host old new (Read count)
IsLoadFault host old new room (Disk (disk.Work count)) = IsPartFault host old new (Disk (disk.Work count))
IsLoadFault host old new room (Disk (disk.Full held most)) = (most ≡ room) × (room < held) × (IsTrue (host.tells Image) → full_of room (host.roles old Image).left ≡ Some held)
IsLoadFault host old new room (Disk (disk.Damaged place name)) = IsPartFault host old new (Disk (disk.Damaged place name))
IsLoadFault host old new room Memory = Unit {0}
