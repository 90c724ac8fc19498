-- How much a role can take with no growth.
use Rattle.std.specs.Prelude.{ℕ, ◌≤◌, Bool, IsTrue}
use Rattle.loom_host.specs.declared.outside.Role.{Role}
use Rattle.loom_host.specs.declared.outside.Role.TheVariants.{Image, Events, Transcript, Notes}

pub record Room : Type 0 where
  -- bytes of what is put to it, or of Work
  pub bytes : ℕ
  -- the same after the next attach
  pub next_bytes : ℕ
  -- of the next attach: its name, and whether there is a place for its file
  pub next_name : ℕ
  pub next_place : Bool

-- no less room
pub record Widens (old new : Room) : Type 0 where
  pub bytes : old.bytes ≤ new.bytes
  pub next_bytes : old.next_bytes ≤ new.next_bytes
  pub next_name : old.next_name ≤ new.next_name
  pub next_place : IsTrue old.next_place → IsTrue new.next_place

-- room for so many bytes now, and after one more attach, whose name may be as long. A role that is read needs none
abbrev pub HasRoom : Role → ℕ → Room → Type 0
HasRoom Image most room = Unit {0}
HasRoom Events most room = Unit {0}
HasRoom Transcript most room = most ≤ room.bytes
HasRoom Notes most room = most ≤ room.bytes
HasRoom _ most room = (most ≤ room.bytes) × (most ≤ room.next_bytes) × (most ≤ room.next_name) × IsTrue room.next_place
