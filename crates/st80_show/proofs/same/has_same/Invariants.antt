use Rattle.std.proofs.Common.{◌≡◌, ℕ, ◌<◌, Some, slice_get}
use Rattle.image_format.specs.Rules.{object_in, object_of_rec}
use Rattle.st80_objects.specs.Images.{objects_of}
use Rattle.long_names.specs.declared.object.Rec.{Rec}
use Rattle.st80_show.proofs.same.has_same.Given as goal

abbrev pub invariant-loop-rec : goal.invariant-loop-rec
invariant-loop-rec l = (k : ℕ) (r : Rec) → k < l.rec-index → slice_get (objects_of l.image) k ≡ Some r → object_in (objects_of l.other) r.name ≡ Some (object_of_rec r)
