-- A disk as a function: the object of each name that it holds, and the count. What a call makes of them.
use Rattle.std.specs.Prelude.{◌≡◌, ℕ, ℤ, ◌+◌, ◌-◌, List, ◌++◌, replicate, Bool, true, false, Option, None, Some, is_some, option_map, if◌then◌else◌}
use Rattle.std.specs.FinMap as map
use Rattle.long_names.specs.declared.limits.TheConstants.{LONGEST_RECORD}
use Rattle.long_names.specs.declared.object.Object.{Object}
use Rattle.loom_host.specs.Bytes.{window}
use Rattle.loom_host.specs.Work.{work_of}
use Rattle.loom_host.specs.declared.outside.Host.{Ghosts}
use Rattle.object_record.specs.Buffer.{raw_of}
use Rattle.object_record.specs.Objects.{object_in}
use Rattle.object_record.specs.Raw.{RawRecord}
use Rattle.object_record.specs.declared.offsets.TheConstants.{COUNT_AT, KIND_AT}
use Rattle.work_directory.specs.Directory.{entries_of}
use Rattle.work_directory.specs.Table.{Entry}
use Rattle.work_space.specs.Blocks.{put}
use Rattle.disk_objects.specs.declared.rest.DiskRest.{DiskRest}
use Rattle.disk_objects.specs.Calls.{HoldsObjects, changed_by}
use Rattle.disk_objects.specs.Disk.{DiskObject, disk_held}

-- the bytes of a record at a place, with 0 where it has its count
unfoldable pub record_at : List ℕ → ℕ → List ℕ
record_at work place = window work place COUNT_AT ++ (replicate (KIND_AT - COUNT_AT) 0 ++ window work (place + KIND_AT) (LONGEST_RECORD - KIND_AT))

abbrev pub object_there : List ℕ → Option Entry → Option Object
object_there work None = None
object_there work (Some e) = Some (object_in (raw_of (record_at work e.place)))

-- the object of each name that the directory has
unfoldable pub objects_at : DiskRest → List ℕ → ℕ → Option Object
objects_at rest work n = object_there work (map.get (entries_of rest.directory work) n)

-- and the count
unfoldable pub counts_at : DiskRest → List ℕ → ℕ → Option ℕ
counts_at rest work n = option_map (λ (e : Entry). e.count) (map.get (entries_of rest.directory work) n)

-- the object and the count that a map of records has under a name
abbrev pub object_held : Option DiskObject → Option Object
object_held o = option_map (λ (d : DiskObject). object_in d.raw) o

abbrev pub count_held : Option DiskObject → Option ℕ
count_held o = option_map (λ (d : DiskObject). d.count) o

-- ---- over Work of a host

abbrev pub disk_of : {H : Type 0} → Ghosts H → H → DiskRest → ℕ → Option Object
disk_of host now rest = objects_at rest (work_of host now)

abbrev pub counts_of : {H : Type 0} → Ghosts H → H → DiskRest → ℕ → Option ℕ
counts_of host now rest = counts_at rest (work_of host now)

-- true where there is an object, and then the buffer has it
abbrev pub IsFetched : List ℕ → Option Object → Bool → Type 0
IsFetched bytes (Some o) true = o ≡ object_in (raw_of bytes)
IsFetched bytes (Some o) false = ⊥
IsFetched bytes None true = ⊥
IsFetched bytes None false = Unit {0}

-- two names exchanged
abbrev pub exchanged : {A : Type 0} → (ℕ → A) → ℕ → ℕ → ℕ → A
exchanged f a b = put (put f a (f b)) b (f a)

-- all objects and counts stay
pub record KeepsObjects {H : Type 0} (host : Ghosts H) (old new : H) (rest after : DiskRest) : Type 0 where
  pub stands : HoldsObjects host new after
  pub objects : disk_of host new after ≡ disk_of host old rest
  pub counts : counts_of host new after ≡ counts_of host old rest

-- a record was put with a count
pub record PutsObject {H : Type 0} (host : Ghosts H) (old new : H) (rest after : DiskRest) (raw : RawRecord) (count : ℕ) : Type 0 where
  pub stands : HoldsObjects host new after
  pub objects : disk_of host new after ≡ put (disk_of host old rest) raw.name (Some (object_in raw))
  pub counts : counts_of host new after ≡ put (counts_of host old rest) raw.name (Some count)
  pub held : disk_held after ≡ disk_held rest + (if is_some (disk_of host old rest raw.name) then 0 else 1)

-- a name was removed
pub record RemovesObject {H : Type 0} (host : Ghosts H) (old new : H) (rest after : DiskRest) (name : ℕ) : Type 0 where
  pub stands : HoldsObjects host new after
  pub objects : disk_of host new after ≡ put (disk_of host old rest) name None
  pub counts : counts_of host new after ≡ put (counts_of host old rest) name None

-- the count of a name was changed to this one
pub record ChangesCount {H : Type 0} (host : Ghosts H) (old new : H) (rest after : DiskRest) (name : ℕ) (change : ℤ) (count : ℕ) : Type 0 where
  pub stands : HoldsObjects host new after
  pub by : option_map (λ n. changed_by n change) (counts_of host old rest name) ≡ Some count
  pub objects : disk_of host new after ≡ disk_of host old rest
  pub counts : counts_of host new after ≡ put (counts_of host old rest) name (Some count)

-- two names exchanged their objects
pub record SwapsObjects {H : Type 0} (host : Ghosts H) (old new : H) (rest after : DiskRest) (a b : ℕ) : Type 0 where
  pub stands : HoldsObjects host new after
  pub objects : disk_of host new after ≡ exchanged (disk_of host old rest) a b
  pub counts : counts_of host new after ≡ counts_of host old rest
