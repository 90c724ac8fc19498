-- What a disk holds: a map from names to records with counts, and a list of names that are pending.
use Rattle.std.specs.Prelude.{◌≡◌, ℕ, ◌+◌, ◌<◌, ◌≤◌, List, ◌++◌, length, replicate, Option, Some, None, IsSome}
use Rattle.std.specs.Ordering.{nat_cmp}
use Rattle.std.specs.FinMap as map
use Rattle.long_names.specs.Record.{two_bytes, four_bytes, kind_number, padding}
use Rattle.loom_host.specs.Bytes.{window}
use Rattle.object_record.specs.declared.offsets.TheConstants.{COUNT_AT, KIND_AT}
use Rattle.object_record.specs.Raw.{RawRecord, IsRawRecord, raw_kind, raw_len, raw_contents, raw_end}
use Rattle.work_directory.specs.Directory.{room_of, held_of, end_of, entries_of, IsIn}
use Rattle.work_directory.specs.Table.{Entry, Entries}
use Rattle.work_directory.specs.declared.directory.Directory.{Directory}
use Rattle.work_space.specs.Blocks.{block_size, times, link_at, AreLinked}
use Rattle.work_space.specs.declared.limits.TheConstants.{SIZE_CLASSES}
use Rattle.work_space.specs.Space.{IsSpace, from_of}
use Rattle.work_space.specs.declared.space.Space.{Space}
use Rattle.disk_objects.specs.declared.rest.DiskRest.{DiskRest}

-- ---- the map

-- what a disk has under a name: its raw record, with 0 where a record has its count, and the count
pub record DiskObject : Type 0 where
  pub raw : RawRecord
  pub count : ℕ

abbrev pub Objects : Type 0
Objects = map.FinMap nat_cmp DiskObject

abbrev pub with_count : RawRecord → ℕ → RawRecord
with_count r n = record { name = r.name; class = r.class; count = n; body = r.body }

-- a record that is put with a count
abbrev pub object_of : RawRecord → ℕ → DiskObject
object_of r n = record { raw = with_count r 0; count = n }

-- ---- records in blocks

-- the bytes of a record
abbrev pub record_size : RawRecord → ℕ
record_size r = raw_end r.body + padding (raw_end r.body)

-- the bytes of a record before its count
abbrev pub names_text : RawRecord → List ℕ
names_text r = four_bytes r.name ++ four_bytes r.class

-- the bytes behind its count
abbrev pub tail_text : RawRecord → List ℕ
tail_text r = two_bytes (kind_number (raw_kind r.body)) ++ (two_bytes (raw_len r.body) ++ (raw_contents r.body ++ replicate (padding (raw_end r.body)) 0))

-- the smallest size class whose blocks have so many bytes
pub record IsSizeClass (c size : ℕ) : Type 0 where
  pub low : c < SIZE_CLASSES
  pub fits : size ≤ block_size c
  pub smallest : (d : ℕ) → size ≤ block_size d → c ≤ d

-- a record stands at a place of Work, with this link where it has its count
pub record IsLaid (work : List ℕ) (place : ℕ) (raw : RawRecord) (link : ℕ) : Type 0 where
  pub names : window work place COUNT_AT ≡ names_text raw
  pub link_is : link_at work (place + COUNT_AT) ≡ link
  pub tail : window work (place + KIND_AT) (length (tail_text raw)) ≡ tail_text raw

-- an object is stored under a name where the directory has this entry, in a block of the smallest size class that holds its record
pub record IsInBlock (work : List ℕ) (out : ℕ → Option ℕ) (link name : ℕ) (e : Entry) (o : DiskObject) : Type 0 where
  pub count : o.count ≡ e.count
  pub named : o.raw.name ≡ name
  pub uncounted : o.raw.count ≡ 0
  pub raw : IsRawRecord o.raw
  pub class : ℕ
  pub is_class : IsSizeClass class (record_size o.raw)
  pub block : out e.place ≡ Some class
  pub laid : IsLaid work e.place o.raw link

-- the directory has an entry exactly where there is an object, which is stored there
abbrev pub AreAlike : List ℕ → (ℕ → Option ℕ) → ℕ → ℕ → Option Entry → Option DiskObject → Type 0
AreAlike work out link name None None = Unit {0}
AreAlike work out link name None (Some o) = ⊥
AreAlike work out link name (Some e) None = ⊥
AreAlike work out link name (Some e) (Some o) = IsInBlock work out link name e o

-- each object is stored in a block of its own
pub record AreInBlocks (work : List ℕ) (out : ℕ → Option ℕ) (link : ℕ → ℕ) (entries : Entries) (objects : Objects) : Type 0 where
  pub each : (name : ℕ) → AreAlike work out (link name) name (map.get entries name) (map.get objects name)
  pub apart : (m n : ℕ) (e f : Entry) → map.get entries m ≡ Some e → map.get entries n ≡ Some f → e.place ≡ f.place → m ≡ n

-- a name has the block at this place
abbrev pub IsOwned : Entries → ℕ → Type 0
IsOwned entries p = (name : ℕ) × (e : Entry) × (map.get entries name ≡ Some e) × (e.place ≡ p)

-- ---- the pending names

-- each name is held, and none stands twice
pub record ArePending (objects : Objects) (pending : List ℕ) : Type 0 where
  pub held : (name : ℕ) → 0 < times name pending → IsSome (map.get objects name)
  pub once : (name : ℕ) → times name pending ≤ 1

-- the number of a name, or 0
abbrev pub link_to : Option ℕ → ℕ
link_to None = 0
link_to (Some name) = name

-- ---- the disk

-- the blocks begin behind the directory, and each size class has at most as many as there is room for names
pub record HasSpace (d : Directory) (s : Space) (work laid : List ℕ) (out : ℕ → Option ℕ) : Type 0 where
  pub blocks : IsSpace s work laid out
  pub from_is : from_of s ≡ end_of d
  pub few : (c : ℕ) → times c laid ≤ room_of d

-- a directory, blocks and the first pending name stand for these objects and pending names, with these links
pub record AreKept (d : Directory) (s : Space) (first : Option ℕ) (work laid : List ℕ) (out : ℕ → Option ℕ) (link : ℕ → ℕ) (objects : Objects) (pending : List ℕ) : Type 0 where
  pub directory : IsIn d work
  pub space : HasSpace d s work laid out
  pub stored : AreInBlocks work out link (entries_of d work) objects
  -- the link that stands with a pending name is the next one, or 0 at the end
  pub linked : AreLinked link (link_to first) pending
  pub are_pending : ArePending objects pending

-- These objects and pending names stand in these contents of Work.
pub record IsDisk (rest : DiskRest) (work : List ℕ) (objects : Objects) (pending : List ℕ) : Type 0 where
  pub laid : List ℕ
  pub out : ℕ → Option ℕ
  pub link : ℕ → ℕ
  pub kept : AreKept rest.directory rest.space rest.first work laid out link objects pending
  -- no block is out but those of the objects
  pub owned : (p c : ℕ) → out p ≡ Some c → IsOwned (entries_of rest.directory work) p

-- for how many names there is room, how many are held, and the first pending one
abbrev pub disk_room : DiskRest → ℕ
disk_room rest = room_of rest.directory

abbrev pub disk_held : DiskRest → ℕ
disk_held rest = held_of rest.directory

abbrev pub disk_first : DiskRest → Option ℕ
disk_first rest = rest.first
