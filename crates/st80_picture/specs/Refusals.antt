-- Why bytes are no picture.
use Rattle.std.specs.Prelude.{◌≡◌, ◌≢◌, ℕ, ◌*◌, ◌^◌, ◌<◌, List, [], length}
use Rattle.st80_picture.specs.declared.picture.BadPicture.{BadPicture}
use Rattle.st80_picture.specs.declared.picture.BadPicture.TheVariants.{Head, Empty, Flat, Cut, Long, Large, Memory}
use Rattle.st80_picture.specs.Pictures.{pbm, row_bytes}

-- no head of a PBM stands before anything in them
abbrev pub HasNoHead : List ℕ → Type 0
HasNoHead bytes = (width height : ℕ) (rest : List ℕ) → width < 2 ^ 31 → height < 2 ^ 31 → bytes ≢ pbm width height rest

-- they are a head, and behind it other bytes than a picture of this size has
pub record HasOtherRows (bytes : List ℕ) (test : ℕ → ℕ → Type 0) : Type 0 where
  pub width : ℕ
  pub height : ℕ
  pub rest : List ℕ
  pub text : bytes ≡ pbm width height rest
  pub size : test (height * row_bytes width) (length rest)

abbrev pub IsRefusal : List ℕ → BadPicture → Type 0
IsRefusal bytes Empty = bytes ≡ []
IsRefusal bytes Head = HasNoHead bytes
IsRefusal bytes Large = HasOtherRows bytes (λ count there. 1073741824 < count)
IsRefusal bytes Cut = HasOtherRows bytes (λ count there. there < count)
IsRefusal bytes Long = HasOtherRows bytes (λ count there. count < there)
IsRefusal bytes Flat = ⊥
IsRefusal bytes Memory = Unit {0}
