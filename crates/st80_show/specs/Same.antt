-- When two images are the same.
use Rattle.std.specs.Prelude.{◌≡◌, ℕ, List, Some, slice_get}
use Rattle.long_names.specs.declared.object.Rec.{Rec}
use Rattle.image_format.specs.Rules.{object_in, object_of_rec}
use Rattle.st80_objects.specs.Images.{objects_of}
use Rattle.st80_objects.specs.declared.image.Image.{Image}

-- each object of the first is one of the second under its name
abbrev pub HasSame : List Rec → List Rec → Type 0
HasSame a b = (i : ℕ) (r : Rec) → slice_get a i ≡ Some r → object_in b r.name ≡ Some (object_of_rec r)

-- The same head, and the same object under each name, or none in both. Counts follow from the objects.
pub record IsSameImage (a b : Image) : Type 0 where
  pub head : a.head ≡ b.head
  pub objects : (n : ℕ) → object_in (objects_of a) n ≡ object_in (objects_of b) n
