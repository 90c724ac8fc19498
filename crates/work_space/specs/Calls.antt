-- Why a call failed.
use Rattle.std.specs.Prelude.{◌≡◌, ◌+◌, ◌<◌, ℕ, Bool, true}
use Rattle.long_names.specs.Counting.{Rose}
use Rattle.loom_host.specs.declared.outside.DiskFault.{DiskFault}
use Rattle.loom_host.specs.declared.outside.DiskFault.TheVariants as fault
use Rattle.work_space.specs.Blocks.{block_size}
use Rattle.work_space.specs.declared.limits.TheConstants.{LAST_END}
use Rattle.work_space.specs.Space.{first_of, end_of, next_place}
use Rattle.work_space.specs.declared.space.Space.{Space}

-- Why no block of a size class was taken: a call on Work failed, or Damaged names the block that can't be taken. Where none of the size
-- class is free, that is a new one that would end behind the last place.
abbrev pub IsTakeFault : Space → ℕ → ℕ → ℕ → DiskFault → Type 0
IsTakeFault s c before now (fault.Work count) = (count ≡ now) × Rose before now
IsTakeFault s c before now (fault.Full held room) = ⊥
IsTakeFault s c before now (fault.Damaged place name) =
    (name ≡ 0) × (place ≡ next_place s c) × (first_of s c ≡ 0 → LAST_END < end_of s + block_size c)

-- a fault is Damaged only where this is so
abbrev pub IsDamagedBy : Bool → DiskFault → Type 0
IsDamagedBy broken (fault.Work count) = Unit {0}
IsDamagedBy broken (fault.Full held room) = Unit {0}
IsDamagedBy broken (fault.Damaged place name) = broken ≡ true

-- ---- inside

-- a new block of size class c would begin at this end, and end behind the last place
abbrev pub IsFullAt : ℕ → ℕ → DiskFault → Type 0
IsFullAt end c (fault.Work count) = ⊥
IsFullAt end c (fault.Full held room) = ⊥
IsFullAt end c (fault.Damaged place name) = (name ≡ 0) × (place ≡ end) × (LAST_END < end + block_size c)
