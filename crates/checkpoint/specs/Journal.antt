-- What a journal tells.
use Rattle.std.specs.Prelude.{ℕ, ◌+◌, ◌≤◌, None, length, vec_len, vec_capacity}
use Rattle.checkpoint.specs.Vault.{VaultState}
use Rattle.checkpoint.specs.Noted.{began_of, calls_from}
use Rattle.checkpoint.specs.declared.journal.Journal.{Journal}

-- as a vault that was never opened
unfoldable pub state_in : Journal → VaultState
state_in j = record {
  openings = 0;
  name = None;
  began = began_of j.bytes.items j.began.items j.noted.items;
  calls = calls_from j.pieces.items j.began.items j.noted.items;
}

-- room for so many further calls, for so many bytes of pieces, and for contents up to an end
pub record HasRoomIn (more bytes end : ℕ) (j : Journal) : Type 0 where
  pub calls : vec_len j.noted + more ≤ vec_capacity j.noted
  pub ranges : vec_len j.unsynced + more ≤ vec_capacity j.unsynced
  pub pieces : vec_len j.pieces + bytes ≤ vec_capacity j.pieces
  pub contents : end ≤ vec_capacity j.bytes
  -- the copy of the contents that the first call makes
  pub began : end ≤ vec_capacity j.began
  pub copied : length j.bytes.items ≤ vec_capacity j.began

-- no less room
abbrev pub WidensIn : Journal → Journal → Type 0
WidensIn old new = (calls bytes end : ℕ) → HasRoomIn calls bytes end old → HasRoomIn calls bytes end new
