-- What parts and a disk stand for, where the host tells Work.
--
-- A condition says that there are levels of which something is so; a promise is made for all levels that stand there. Which levels stand there
-- is no function here: the records, the counts and the pending names are those of `IsDisk`.
use Rattle.std.specs.Prelude.{◌≡◌, ℕ, pos, negsuc, ◌+ℤ◌, ◌∷◌, List, [], Bool, true, false, IsTrue, Option, None, Some, option_map}
use Rattle.std.specs.FinMap as map
use Rattle.std.specs.Int.{w64, FitsUnsigned}
use Rattle.long_names.specs.declared.value.Value.{Value}
use Rattle.long_names.specs.Names.{is_known}
use Rattle.long_names.specs.Heap.{Has, without, count_of}
use Rattle.long_names.specs.Thin.{IsThinner}
use Rattle.loom_host.specs.declared.outside.Host.{Ghosts}
use Rattle.loom_host.specs.declared.outside.Role.TheVariants.{Work}
use Rattle.loom_host.specs.Work.{work_of}
use Rattle.object_record.specs.Objects.{object_in}
use Rattle.disk_objects.specs.declared.rest.DiskRest.{DiskRest}
use Rattle.disk_objects.specs.Disk.{DiskObject, Objects, IsDisk}
use Rattle.core_segment.specs.Chunks.{Chunk}
use Rattle.resident_table.specs.declared.Parts2.{Parts2}
use Rattle.core_view.specs.Levels.{Stored, Levels, heap_of, sum_of}
use Rattle.core_view.specs.Counted.{IsSound}
use Rattle.core_view.specs.Dead.{roots_of, IsDead, NoneBareDead, CanGo, HasCount}
use Rattle.core_view.specs.LevelSteps.{folded, with_pending}
use Rattle.delta_counts.specs.Parts.{core_with, IsChange}

-- what a disk has of a name
abbrev pub stored_of : DiskObject → Stored
stored_of o = record { object = object_in o.raw; count = o.count }

-- these contents of Work have just these objects and counts, and these names are pending there
pub record IsStoredIn (rest : DiskRest) (work : List ℕ) (stored : ℕ → Option Stored) (pending : List ℕ) : Type 0 where
  pub objects : Objects
  pub disk : IsDisk rest work objects pending
  pub same : (q : ℕ) → option_map stored_of (map.get objects q) ≡ stored q

abbrev pub IsStoredAt : {H : Type 0} → Ghosts H → H → DiskRest → (ℕ → Option Stored) → List ℕ → Type 0
IsStoredAt host now rest stored pending = IsStoredIn rest (work_of host now) stored pending

-- parts, with these chunks, and a disk stand for these levels
pub record IsAt {H : Type 0} (host : Ghosts H) (chunks : ℕ → Chunk) (p : Parts2) (now : H) (rest : DiskRest) (t : Levels) : Type 0 where
  pub core : core_with chunks p ≡ t.core
  pub disk : IsStoredAt host now rest t.stored t.pending

-- where the host tells Work, they stand for levels of which this is so
abbrev pub AtSome : {H : Type 0} → Ghosts H → Parts2 → H → DiskRest → (Levels → Type 0) → Type 0
AtSome host p now rest P = IsTrue (host.tells Work) → (chunks : ℕ → Chunk) × (t : Levels) × IsAt host chunks p now rest t × P t

-- ---- what is asked

-- the count of a name may be lowered: in its entry, or where it has none on disk
abbrev pub can_lower : Levels → ℕ → Option ℕ → Type 0
can_lower t n (Some s) = IsChange ((t.core.entries s).change +ℤ negsuc 0)
can_lower t n None = HasCount t.stored t.pending n

abbrev pub CanLower : ℕ → Levels → Type 0
CanLower n t = can_lower t n (t.core.find n)

-- the change of an entry may be folded into the count on disk, which holds the name
pub record CanFold (s : ℕ) (t : Levels) : Type 0 where
  pub stored : Stored
  pub there : t.stored (t.core.entries s).name ≡ Some stored
  pub found : t.core.find (t.core.entries s).name ≡ Some s
  pub fits : FitsUnsigned w64 (pos stored.count +ℤ (t.core.entries s).change)

-- one word of this value is owed, and others may be
abbrev pub Owes : Value → Levels → Type 0
Owes v t = (owed : List Value) × IsSound t (v ∷ owed)

abbrev pub IsSoundWith : List Value → Levels → Type 0
IsSoundWith owed t = IsSound t owed

-- of sound levels, these have other names pending, and the name may go
pub record MayGo (n : ℕ) (now : Levels) : Type 0 where
  pub levels : Levels
  pub stored : Stored
  pub sound : IsSound levels []
  pub can : CanGo levels n stored now.pending
  pub is : now ≡ with_pending levels now.pending

-- ---- what is reached

-- levels that are reached from others: the heap is the same, and these words are owed
pub record IsReached {H : Type 0} (host : Ghosts H) (chunks : ℕ → Chunk) (p : Parts2) (now : H) (rest : DiskRest) (t : Levels) (owed : List Value) : Type 0 where
  pub levels : Levels
  pub at : IsAt host chunks p now rest levels
  pub sound : IsSound levels owed
  pub heap : heap_of levels ≡ heap_of t

-- a change is folded, and the count that is answered is the sum
pub record IsFolded {H : Type 0} (host : Ghosts H) (chunks : ℕ → Chunk) (p : Parts2) (now : H) (rest : DiskRest) (t : Levels) (s count : ℕ) : Type 0 where
  pub at : IsAt host chunks p now rest (folded t s)
  pub sum : pos count ≡ sum_of t (t.core.entries s).name

-- a name is gone, and it is sound
pub record IsFreedAt {H : Type 0} (host : Ghosts H) (chunks : ℕ → Chunk) (p : Parts2) (now : H) (rest : DiskRest) (t : Levels) (n : ℕ) : Type 0 where
  pub levels : Levels
  pub at : IsAt host chunks p now rest levels
  pub sound : IsSound levels []
  pub heap : heap_of levels ≡ without (heap_of t) n

-- whether a dead name was freed that had no entry; if not, none was pending
abbrev pub Drains : {H : Type 0} → Ghosts H → (ℕ → Chunk) → Parts2 → H → DiskRest → Levels → Bool → Type 0
Drains host chunks p now rest t true = (n : ℕ) × IsDead t n × (t.core.find n ≡ None) × IsFreedAt host chunks p now rest t n
Drains host chunks p now rest t false = (t.pending ≡ []) × IsAt host chunks p now rest t

-- one name was freed that no word of the heap was, and no register or slot, and that isn't known
pub record IsOneFreed {H : Type 0} (host : Ghosts H) (chunks : ℕ → Chunk) (p : Parts2) (now : H) (rest : DiskRest) (t : Levels) : Type 0 where
  pub name : ℕ
  pub levels : Levels
  pub at : IsAt host chunks p now rest levels
  pub sound : IsSound levels []
  pub held : Has (heap_of t) name
  pub unknown : is_known name ≡ false
  pub uncounted : count_of (heap_of t) name ≡ 0
  pub free : roots_of t name ≡ 0
  pub heap : heap_of levels ≡ without (heap_of t) name
  pub thinner : IsThinner (heap_of t) (heap_of levels)

-- whether one was freed; if not, no name without a body is dead
abbrev pub DrainsOne : {H : Type 0} → Ghosts H → (ℕ → Chunk) → Parts2 → H → DiskRest → Levels → Bool → Type 0
DrainsOne host chunks p now rest t true = IsOneFreed host chunks p now rest t
DrainsOne host chunks p now rest t false = (r : IsReached host chunks p now rest t []) × NoneBareDead r.levels
