-- How the command `check` ends, by the bytes of its file.
use Rattle.std.specs.Prelude.{◌≡◌, ◌⊎◌, codes, IsTrue, List, ℕ}
use Rattle.st80_explain.specs.Kinds.{begins}
use Rattle.st80_files.specs.declared.codes.Code.{Code}
use Rattle.st80_files.specs.declared.codes.Code.TheVariants.{ImageBad, TextBad, Well}
use Rattle.st80_objects.specs.Images.{IsImageOf}
use Rattle.st80_objects.specs.declared.image.Image.{Image}

-- they break none of the rules 1 to 9 and 13
abbrev pub IsRead : List ℕ → Type 0
IsRead bytes = (image : Image) × IsImageOf bytes image

-- what begins as an image ends well or as a bad image, and what begins as a text well or as a bad text
pub data IsChecked (bytes : List ℕ) (end : Code) : Type 0 where
  OfImage : IsTrue (begins (codes "LOOM") bytes) → (end ≡ Well) ⊎ (end ≡ ImageBad) → IsRead bytes → IsChecked bytes end
  OfText : IsTrue (begins (codes "loom ") bytes) → (end ≡ Well) ⊎ (end ≡ TextBad) → IsChecked bytes end
