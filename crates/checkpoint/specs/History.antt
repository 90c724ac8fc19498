-- What a vault keeps over many checkpoints.
use Rattle.std.specs.Prelude.{◌≡◌, ℕ, ◌+◌, ◌<◌, ◌≤◌, ◌⊎◌, Bool, IsTrue, List, length}
use Rattle.checkpoint.specs.Keeping.{HasNext, HasSame, serial_of}
use Rattle.checkpoint.specs.Layout.{found}
use Rattle.checkpoint.specs.Vault.{VaultState, Extends, MayLeave, contents_of, moment}

-- the serial of the checkpoint that these bytes have, or 0
abbrev pub serial_in : List ℕ → ℕ
serial_in bytes = serial_of (found bytes)

-- They have the checkpoint of this serial, whole: that which those have, with the same image, or a later one, whose image is as it is to be.
abbrev pub HasSerial : List ℕ → (ℕ → List ℕ → Type 0) → ℕ → List ℕ → Type 0
HasSerial old IsImage serial bytes =
    ((serial ≡ serial_in old) × HasSame old bytes) ⊎ ((serial_in old < serial) × HasNext serial (IsImage serial) bytes)

-- From one state to another the vault kept one checkpoint after the other, and that of serial `last` was answered last. At each moment `answered` is
-- the serial that was answered last by then. It never falls, and a stop leaves its checkpoint or the next one, whole, and no other.
pub record Keeps (old new : VaultState) (last : ℕ) (IsImage : ℕ → List ℕ → Type 0) : Type 0 where
  pub extends : Extends old new
  pub answered : ℕ → ℕ
  pub rises : (j k : ℕ) → j ≤ k → answered j ≤ answered k
  -- the checkpoint that was there counts as answered
  pub begins : answered (length old.calls) ≡ serial_in (contents_of old)
  pub ends : answered (length new.calls) ≡ last
  pub leaves : (k : ℕ) → length old.calls ≤ k → (bytes : List ℕ) → MayLeave (moment k new) bytes
      → HasSerial (contents_of old) IsImage (answered k) bytes ⊎ HasSerial (contents_of old) IsImage (answered k + 1) bytes

-- where nothing is said of the images
abbrev pub AnyImage : ℕ → List ℕ → Type 0
AnyImage serial text = Unit {0}

-- the image of each serial, where the images are told
abbrev pub IsItsImage : Bool → (ℕ → List ℕ) → ℕ → List ℕ → Type 0
IsItsImage told image serial text = IsTrue told → text ≡ image serial
