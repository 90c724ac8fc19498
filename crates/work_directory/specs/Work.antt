-- What a call on a directory leaves of Work, and why it failed.
use Rattle.std.specs.Prelude.{◌≡◌, ℕ, ◌≤◌, ◌<◌, List, length, max, slice_index, IsTrue}
use Rattle.loom_host.specs.Work.{HasFailed}
use Rattle.work_directory.specs.Slots.{slot_place, IsSlotOf}
use Rattle.loom_host.specs.declared.outside.Host.{Ghosts}
use Rattle.loom_host.specs.declared.outside.Role.TheVariants.{Work as OfWork}
use Rattle.loom_host.specs.declared.outside.DiskFault.{DiskFault}
use Rattle.loom_host.specs.declared.outside.DiskFault.TheVariants.{Work, Full, Damaged}

-- from a place on the bytes are the same, and the new contents end no later than the old ones or that place
pub record SameFrom (place : ℕ) (old new : List ℕ) : Type 0 where
  pub bytes : (k : ℕ) → place ≤ k → slice_index new k ≡ slice_index old k
  pub end : length new ≤ max (length old) place

-- up to a place the bytes are the same
abbrev pub SameBefore : ℕ → List ℕ → List ℕ → Type 0
SameBefore place old new = (k : ℕ) → k < place → slice_index new k ≡ slice_index old k

-- one of n slots whose bytes can't be so was read at this place. A host that tells Work shows none
pub record IsDamaged {H : Type 0} (host : Ghosts H) (n place : ℕ) : Type 0 where
  pub untold : IsTrue (host.tells OfWork) → ⊥
  pub slot : IsSlotOf n place

-- why a call failed that looked for this name in n slots
abbrev pub IsCause : {H : Type 0} → Ghosts H → H → H → ℕ → ℕ → DiskFault → Type 0
IsCause host old new n name (Work count) = HasFailed host old new count
IsCause host old new n name (Full held room) = ⊥
IsCause host old new n name (Damaged place about) = IsDamaged host n place × (about ≡ name)

-- why a call failed that read slot i
abbrev pub IsSlotCause : {H : Type 0} → Ghosts H → H → H → ℕ → DiskFault → Type 0
IsSlotCause host old new i (Work count) = HasFailed host old new count
IsSlotCause host old new i (Full held room) = ⊥
IsSlotCause host old new i (Damaged place about) = (IsTrue (host.tells OfWork) → ⊥) × (place ≡ slot_place i)
