-- Calls that leave some places of a vault alone, whatever comes of them.
use Rattle.std.specs.Prelude.{◌≡◌, ℕ, ◌+◌, ◌*◌, ◌-◌, ◌≤◌, ◌<◌, ◌⊎◌, true, slice_index}
use Rattle.checkpoint.specs.Layout.{image_place}
use Rattle.checkpoint.specs.Vault.{VaultState, Extends, Throughout, contents_of, is_synced, unsynced_of}
use Rattle.checkpoint.specs.declared.layout.TheConstants.{GATE_BYTES, GATE_GAP}

-- each of these places is synced, and holds this
pub record Sure (s : VaultState) (At : ℕ → Type 0) (byte : ℕ → ℕ) : Type 0 where
  pub synced : (i : ℕ) → At i → is_synced (unsynced_of s) i ≡ true
  pub held : (i : ℕ) → At i → slice_index (contents_of s) i ≡ byte i

-- what is known of these places stays so, and so at each moment between
pub record Spares (At : ℕ → Type 0) (old new : VaultState) : Type 0 where
  pub extends : Extends old new
  pub sure : (byte : ℕ → ℕ) → Sure old At byte → Sure new At byte
  pub throughout : (byte : ℕ → ℕ) → Sure old At byte → Throughout old new (λ bytes. (i : ℕ) → At i → slice_index bytes i ≡ byte i)

-- ---- the places

-- in a gate
abbrev pub IsGatePlace : ℕ → ℕ → Type 0
IsGatePlace s i = (GATE_GAP * s ≤ i) × (i < GATE_GAP * s + GATE_BYTES)

-- in an area
abbrev pub IsAreaPlace : ℕ → ℕ → Type 0
IsAreaPlace s i = (j : ℕ) × (i ≡ image_place s j)

-- no other than the byte of a gate
abbrev pub IsButByte : ℕ → ℕ → Type 0
IsButByte s i = i ≡ GATE_GAP * s → ⊥

-- what a checkpoint of this parity leaves alone while it is written: the byte of its gate, and the other gate and area
abbrev pub IsApart : ℕ → ℕ → Type 0
IsApart s i = (i ≡ GATE_GAP * s) ⊎ (IsGatePlace (1 - s) i ⊎ IsAreaPlace (1 - s) i)
