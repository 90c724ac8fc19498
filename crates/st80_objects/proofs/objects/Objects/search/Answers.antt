use Rattle.std.proofs.Common.{rules}
use Rattle.std.proofs.lemmas.List.Sorted.{answers_always}
use Rattle.long_names.specs.declared.object.Rec.{Rec}
use Rattle.st80_objects.proofs.Places.{searched}
use Rattle.st80_objects.proofs.objects.Objects.search.Goals as goal

-- the closure gives an object's name, and the slice is the objects
pub returns : goal.returns
returns c =
    let facts = c.binary_search_by_key.ensures in
    let by_name = facts.position (λ (r : Rec). r.name) (answers_always _ _ _ (λ f a r g called. search rules)) in
    rw (← c.self.view_is, ← c.deref.ensures.value, ← c.get-word.ensures.value) (searched _ (rw c.deref.ensures.value c.self.invariant) _ _ facts.bound by_name)
