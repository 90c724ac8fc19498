-- Why room could not be made, and what stays where there was room.
use Rattle.std.specs.Prelude.{◌≡◌, ◌⊎◌, ℕ, ◌≤◌, Bool, true, Result, Ok, Err, Some, IsTrue}
use Rattle.long_names.specs.Counting.{Rose}
use Rattle.loom_host.specs.declared.outside.DiskFault.{DiskFault}
use Rattle.loom_host.specs.declared.outside.DiskFault.TheVariants as fault
use Rattle.loom_host.specs.declared.outside.Host.{Ghosts}
use Rattle.loom_host.specs.declared.outside.Role.TheVariants.{Work}
use Rattle.object_table.specs.Entries.{place_of}
use Rattle.core_segment.specs.Segment.{free_of}
use Rattle.core_view.specs.Core.{Core}
use Rattle.core_view.specs.Purge.{IsSameBody}
use Rattle.core_view.specs.Room.{IsBare}
use Rattle.disk_objects.specs.declared.rest.DiskRest.{DiskRest}
use Rattle.disk_objects.specs.Disk.{disk_held, disk_room}
use Rattle.disk_objects.specs.Places.{IsReadPlace}
use Rattle.leaf_lambda.specs.declared.parts.Parts.{Parts}
use Rattle.leaf_lambda.specs.Parts.{core_of, spare_of}
use Rattle.purger.specs.declared.eviction.TheConstants.{NOWHERE}
use Rattle.purger.specs.declared.room.RoomFault.{RoomFault}
use Rattle.purger.specs.declared.room.RoomFault.TheVariants.{Short, Disk}

-- Why a call on one record or its count failed: faults of Work rose, or what was read can't be so, over a host that doesn't tell Work.
abbrev pub IsReadFault : Bool → ℕ → ℕ → DiskFault → Type 0
IsReadFault tells before now (fault.Work count) = (count ≡ now) × Rose before now
IsReadFault tells before now (fault.Full held room) = ⊥
IsReadFault tells before now (fault.Damaged place about) = IsTrue tells → ⊥

-- A Damaged of a read that was asked about this name has the name, and the place of the slot or the record that was read, or none.
abbrev pub IsReadDamage : DiskRest → ℕ → DiskFault → Type 0
IsReadDamage rest name (fault.Work count) = Unit {0}
IsReadDamage rest name (fault.Full held room) = Unit {0}
IsReadDamage rest name (fault.Damaged place about) = (IsReadPlace rest place ⊎ (place ≡ NOWHERE)) × (about ≡ name)

-- Why an eviction failed: faults of Work rose; or there are as many records as there is room for and, where Work is told, the object has
-- none; or something that was read can't be so, over a host that doesn't tell Work.
abbrev pub IsEvictFault : {H : Type 0} → Ghosts H → H → H → DiskRest → Bool → DiskFault → Type 0
IsEvictFault host old new rest fresh (fault.Work count) = (count ≡ host.faults new Work) × Rose (host.faults old Work) (host.faults new Work)
IsEvictFault host old new rest fresh (fault.Full held room) = (disk_held rest ≡ disk_room rest) × (IsTrue (host.tells Work) → fresh ≡ true)
IsEvictFault host old new rest fresh (fault.Damaged place about) = IsTrue (host.tells Work) → ⊥

-- The same while room is made for objects of which each has or may have a record.
abbrev pub IsPurgeFault : {H : Type 0} → Ghosts H → H → H → DiskFault → Type 0
IsPurgeFault host old new (fault.Work count) = (count ≡ host.faults new Work) × Rose (host.faults old Work) (host.faults new Work)
IsPurgeFault host old new (fault.Full held room) = IsTrue (host.tells Work) → ⊥
IsPurgeFault host old new (fault.Damaged place about) = IsTrue (host.tells Work) → ⊥

-- so many words and entries are free
abbrev pub HasRoom : Parts → ℕ → ℕ → Type 0
HasRoom p words entries = (words ≤ free_of p.segment) × (entries ≤ spare_of p)

-- nothing but three pinned objects is left, each leaf is named, and that many words or entries aren't free
pub record IsShort (p : Parts) (a b d words entries : ℕ) : Type 0 where
  pub bare : IsBare a b d (core_of p)
  pub wanting : HasRoom p words entries → ⊥

-- each object that has a body still has it
abbrev pub KeepsBodies : Core → Core → Type 0
KeepsBodies old new = (s p : ℕ) → place_of (old.entries s).state ≡ Some p → IsSameBody old new s p

-- ---- by the answer of a call that makes room

-- where there is no room
abbrev pub OnShort : RoomFault → Type 0 → Type 0
OnShort Short P = P
OnShort (Disk f) P = Unit {0}

-- where a call on Work failed
abbrev pub OnDisk : RoomFault → (DiskFault → Type 0) → Type 0
OnDisk Short P = Unit {0}
OnDisk (Disk f) P = P f

-- where no call on Work failed
abbrev pub Undisturbed : {A : Type 0} → Result A RoomFault → Type 0 → Type 0
Undisturbed (Ok a) P = P
Undisturbed (Err f) P = OnShort f P
