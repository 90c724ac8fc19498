-- What the functions inside say of written slots and of closing up.
use Rattle.std.specs.Prelude.{◌≡◌, ℕ, ◌*◌, ◌-◌, ◌+◌, ◌<◌, ◌≤◌, take, drop, List, Option, None, Some, Result, Ok, Err, IfSome, IsTrue}
use Rattle.loom_host.specs.declared.outside.Host.{Ghosts}
use Rattle.loom_host.specs.declared.outside.Role.TheVariants.{Work as OfWork}
use Rattle.loom_host.specs.declared.outside.DiskFault.{DiskFault}
use Rattle.loom_host.specs.declared.outside.DiskFault.TheVariants.{Work, Full, Damaged}
use Rattle.probing.specs.Search.{Puts, IsClosedUp}
use Rattle.probing.specs.Homes.{paged_home_of}
use Rattle.probing.specs.Table.{turned}
use Rattle.work_directory.specs.declared.directory.Found.{Found}
use Rattle.work_directory.specs.declared.piece.Piece.{Piece}
use Rattle.work_directory.specs.declared.slot.Slot.{Slot}
use Rattle.work_directory.specs.declared.limits.TheConstants.{SLOT_BYTES}
use Rattle.work_directory.specs.Slots.{slot_at, slot_place, slots_end, bytes_of, IsSpelled, AreSpelled}
use Rattle.work_directory.specs.Table.{name_at, entry_at}
use Rattle.work_directory.specs.Work.{SameFrom}
use Rattle.loom_host.specs.Work.{work_of, HasFailed}

-- w is v with this slot at one of n
pub record Writes (v w : List ℕ) (n at : ℕ) (slot : Slot) : Type 0 where
  pub puts : Puts (slot_at v) (slot_at w) n at slot
  pub spelled : AreSpelled v n → AreSpelled w n
  pub behind : SameFrom (slots_end n) v w

-- w is v with that slot taken out and closed up
pub record Closes (v w : List ℕ) (n count at : ℕ) : Type 0 where
  pub closed : IsClosedUp paged_home_of (name_at v) (name_at w) (entry_at v) (entry_at w) n count at
  pub spelled : AreSpelled w n
  pub behind : SameFrom (slots_end n) v w

-- why a look at a slot failed
abbrev pub IsLookCause : {H : Type 0} → Ghosts H → H → H → ℕ → Option ℕ → DiskFault → Type 0
IsLookCause host old new at sought (Work count) = HasFailed host old new count
IsLookCause host old new at sought (Full held room) = ⊥
IsLookCause host old new at sought (Damaged place about) = (IsTrue (host.tells OfWork) → IsSpelled (bytes_of (work_of host old) at)
    → ⊥) × (place ≡ slot_place at) × IfSome sought (λ name. about ≡ name)

-- why a write failed
abbrev pub IsWriteCause : {H : Type 0} → Ghosts H → H → H → DiskFault → Type 0
IsWriteCause host old new (Work count) = HasFailed host old new count
IsWriteCause host old new (Full held room) = ⊥
IsWriteCause host old new (Damaged place about) = ⊥

-- the slot that a search for a name among n slots reads last: the one before its home, around the end
abbrev pub last_slot : ℕ → ℕ → ℕ
last_slot n name = turned (paged_home_of name n) (n - 1) n

-- where a search through all n slots ended; where it met no empty slot, damage is told of the one that it read last
abbrev pub search_end : Option Found → ℕ → ℕ → Result Found DiskFault
search_end (Some found) name n = Ok found
search_end None name n = Err (Damaged (slot_place (last_slot n name)) name)

-- ---- slots that were read at once

-- a piece has slot i
pub record HasSlot (p : Piece) (i : ℕ) : Type 0 where
  pub low : p.first ≤ i
  pub high : i < p.first + p.count

-- the bytes that it has of slot i
abbrev pub piece_bytes : Piece → ℕ → List ℕ
piece_bytes p i = take SLOT_BYTES (drop (SLOT_BYTES * (i - p.first)) p.bytes)

-- these spell no slot
abbrev pub IsPieceDamage : Piece → ℕ → DiskFault → Type 0
IsPieceDamage p i (Work count) = ⊥
IsPieceDamage p i (Full held room) = ⊥
IsPieceDamage p i (Damaged place about) = (IsSpelled (piece_bytes p i) → ⊥) × (place ≡ slot_place i)
