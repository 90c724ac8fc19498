-- What `keep` asks of a vault, and what a stop may leave within it.
use Rattle.std.specs.Prelude.{◌≡◌, ℕ, ◌⊎◌, List, [], Option, None, Some, IfSome}
use Rattle.checkpoint.specs.Layout.{bad_place, found, image_in}
use Rattle.checkpoint.specs.Vault.{VaultState, contents_of, unsynced_of}
use Rattle.checkpoint.specs.declared.point.Point.{Point}

-- 0 where there is no checkpoint
abbrev pub serial_of : Option Point → ℕ
serial_of None = 0
serial_of (Some p) = p.serial

-- The vault has this checkpoint, as `recover` says it, and nothing was written since it was synced.
pub record IsLast (s : VaultState) (last : Option Point) : Type 0 where
  pub synced : unsynced_of s ≡ []
  pub whole : bad_place (contents_of s) ≡ None
  pub found_is : found (contents_of s) ≡ last

-- these bytes have the checkpoint that those have, with the same image, or none where those have none
pub record HasSame (old bytes : List ℕ) : Type 0 where
  pub whole : bad_place bytes ≡ None
  pub found_is : found bytes ≡ found old
  pub image : IfSome (found old) (λ p. image_in bytes p ≡ image_in old p)

-- they have the checkpoint of this serial, and its image is such a text
pub record HasNext (serial : ℕ) (IsText : List ℕ → Type 0) (bytes : List ℕ) : Type 0 where
  pub whole : bad_place bytes ≡ None
  pub point : Point
  pub found_is : found bytes ≡ Some point
  pub serial_is : point.serial ≡ serial
  pub text : IsText (image_in bytes point)

-- what a stop within `keep` leaves: the last checkpoint or the next one, whole
abbrev pub HasEither : List ℕ → ℕ → (List ℕ → Type 0) → List ℕ → Type 0
HasEither old serial IsText bytes = HasSame old bytes ⊎ HasNext serial IsText bytes
