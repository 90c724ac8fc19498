-- Why a picture has no PNG.
use Rattle.std.specs.Prelude.{◌≡◌, ℕ, ◌<◌, ◌⊎◌, List, length}
use Rattle.st80_picture.specs.declared.picture.BadPicture.{BadPicture}
use Rattle.st80_picture.specs.declared.picture.BadPicture.TheVariants.{Head, Empty, Flat, Cut, Long, Large, Memory}
use Rattle.st80_picture.specs.Png.{zlib, scanlines}

-- it has no pixel, or its data would be too long for a chunk; or there is no memory
abbrev pub IsCause : ℕ → ℕ → List ℕ → BadPicture → Type 0
IsCause width height rows Head = ⊥
IsCause width height rows Empty = ⊥
IsCause width height rows Flat = (width ≡ 0) ⊎ (height ≡ 0)
IsCause width height rows Cut = ⊥
IsCause width height rows Long = ⊥
IsCause width height rows Large = 2147483647 < length (zlib (scanlines width height rows))
IsCause width height rows Memory = Unit {0}
