-- Why a call over a vault was refused. Where the refusal isn't a failure of the vault, none of its calls failed: the count of its faults is as it was before.
use Rattle.std.specs.Prelude.{◌≡◌, ℕ, Bool, IsTrue, List, [], Some}
use Rattle.long_names.specs.Counting.{Rose}
use Rattle.loom_host.specs.declared.outside.Host.{Ghosts}
use Rattle.disk_objects.specs.declared.names.NamesFault.{NamesFault}
use Rattle.disk_objects.specs.declared.names.NamesFault.TheVariants as names
use Rattle.image_writer.specs.Puts.{IsDiskFault}
use Rattle.checkpoint.specs.Layout.{bad_place}
use Rattle.checkpoint.specs.Keeping.{HasSame}
use Rattle.checkpoint.specs.Vault.{MayLeave, VaultState, contents_of, unsynced_of}
use Rattle.checkpoint.specs.declared.fault.VaultFault.{VaultFault}
use Rattle.checkpoint.specs.declared.fault.VaultFault.TheVariants as fault

-- no refusal but that a call on the vault failed: this is the count of its faults, which rose
abbrev pub IsFailed : ℕ → ℕ → VaultFault → Type 0
IsFailed before now (fault.Failed count) = (count ≡ now) × Rose before now
IsFailed before now (fault.Bad place) = ⊥
IsFailed before now (fault.Disk fault) = ⊥
IsFailed before now fault.Memory = ⊥

-- that, or the first gate that is bad among these bytes, where they are told, while no call on the vault failed
abbrev pub IsRecoverFault : Bool → List ℕ → ℕ → ℕ → VaultFault → Type 0
IsRecoverFault tells bytes before now (fault.Failed count) = (count ≡ now) × Rose before now
IsRecoverFault tells bytes before now (fault.Bad place) = (now ≡ before) × (IsTrue tells → bad_place bytes ≡ Some place)
IsRecoverFault tells bytes before now (fault.Disk fault) = ⊥
IsRecoverFault tells bytes before now fault.Memory = ⊥

-- where a gate is bad, all that was written is synced
abbrev pub IsSureBad : VaultState → VaultFault → Type 0
IsSureBad s (fault.Failed count) = Unit {0}
IsSureBad s (fault.Bad place) = unsynced_of s ≡ []
IsSureBad s (fault.Disk fault) = Unit {0}
IsSureBad s fault.Memory = Unit {0}

-- that a call on the vault failed, or want of memory where none failed
abbrev pub IsReadFault : ℕ → ℕ → VaultFault → Type 0
IsReadFault before now (fault.Failed count) = (count ≡ now) × Rose before now
IsReadFault before now (fault.Bad place) = ⊥
IsReadFault before now (fault.Disk fault) = ⊥
IsReadFault before now fault.Memory = now ≡ before

-- that a call on the vault failed; or, where none failed, a fault of the disk or want of memory
abbrev pub IsKeepFault : {H : Type 0} → Ghosts H → H → H → ℕ → ℕ → VaultFault → Type 0
IsKeepFault host old new before now (fault.Failed count) = (count ≡ now) × Rose before now
IsKeepFault host old new before now (fault.Bad place) = ⊥
IsKeepFault host old new before now (fault.Disk f) = (now ≡ before) × IsDiskFault host old new f
IsKeepFault host old new before now fault.Memory = now ≡ before

-- why the names of a disk aren't told, as a fault of keeping
abbrev pub fault_of_names : NamesFault → VaultFault
fault_of_names (names.Disk f) = fault.Disk f
fault_of_names names.Memory = fault.Memory

-- A refusal of keeping that isn't a failure of the vault leaves its last checkpoint: a stop then leaves that one, whole, and no other.
abbrev pub LeavesLast : VaultState → VaultState → VaultFault → Type 0
LeavesLast old new (fault.Failed count) = Unit {0}
LeavesLast old new (fault.Bad place) = Unit {0}
LeavesLast old new (fault.Disk fault) = (bytes : List ℕ) → MayLeave new bytes → HasSame (contents_of old) bytes
LeavesLast old new fault.Memory = (bytes : List ℕ) → MayLeave new bytes → HasSame (contents_of old) bytes
