-- What is left where nothing is dead: the kept objects.
use Rattle.std.proofs.Common.{◌≡◌, ℕ, ◌<◌, nat_lt, true, false, [], Option, Some, None, is_some, refl, sym, ◌∙◌, ap, arith}
use Rattle.std.proofs.lemmas.Int.{ints}
use Rattle.std.proofs.lemmas.Grind.{common_steps}
use Rattle.long_names.specs.Heap.{Heap, Has, IsBounded, holdings_below, count_of}
use Rattle.long_names.specs.Kept.{holds_at, kept}
use Rattle.long_names.specs.Thin.{IsThinner}
use Rattle.long_names.proofs.KeptLaws.{any_below-at, any-holdings, holder, kept-thinner}
use Rattle.core_view.proofs.Core.{held-absent}
use Rattle.long_names.proofs.CountLaws.{kept-rooted}
use Rattle.core_view.specs.Levels.{Levels, count_in, records_of, heap_of}
use Rattle.core_view.specs.Counted.{IsHeld, IsSound}
use Rattle.core_view.specs.Dead.{roots_of, outside_by, is_root, NoneDead, IsImage}
use Rattle.core_view.proofs.ChangeLaws.{no-change}
use Rattle.core_view.proofs.DeadLaws.{held-there}

-- what is counted is held
pub counted-has : (h : Heap) (q : ℕ) → IsHeld h → 0 < count_of h q → Has h q
unfolding count_of
counted-has h q x some =
    let yes : nat_lt 0 (holdings_below h h.next q) ≡ true = grind (arith, common_steps, some) in
    let at_it = any_below-at h.next (λ k. holds_at h k q) (any-holdings h q h.next ∙ yes) in
    let it = holder h at_it.0 q at_it.1 in
    x.closed at_it.0 it.0 q it.1 it.2

root-has : (t : Levels) (q : ℕ) → IsSound t [] → is_root t q ≡ true → Has (heap_of t) q
root-has t q x e = go (t.core.find q) refl
  where
    go : (o : Option ℕ) → t.core.find q ≡ o → Has (heap_of t) q
    go None f = let none : nat_lt 0 (roots_of t q) ≡ false = ap (λ o. nat_lt 0 (outside_by t.core o)) f in absurd (cc)
    go (Some s) f = x.counted.entered q s f

-- the end of draining: a thinning of h in which nothing is dead is what is kept of h, with registers and slots as roots
pub drained-kept : (h : Heap) (t : Levels) → IsBounded h → IsThinner h (heap_of t) → IsSound t [] → NoneDead t → heap_of t ≡ kept h (is_root t)
drained-kept h t b thin x none =
    sym (kept-rooted (heap_of t) (is_root t) (λ q there unknown out zero_count. none q (record { held = there; unknown = unknown; uncounted = zero_count; free = free q out })))
    ∙ kept-thinner h (heap_of t) (is_root t) thin x.heap.closed x.heap.known (λ q e. root-has t q x e) b
  where
    free : (q : ℕ) → is_root t q ≡ false → roots_of t q ≡ 0
    free q e = nothing (roots_of t q) e
      where
        nothing : (n : ℕ) → nat_lt 0 n ≡ false → n ≡ 0
        nothing n e = grind (arith, common_steps, e)

-- the end: without entries, and with none pending, the disk has just the objects of the heap with their exact counts
pub image : (t : Levels) → IsSound t [] → ((q : ℕ) → t.core.find q ≡ None) → IsImage t.stored (heap_of t)
image t x empty = record {
  objects = λ q. sym (held-absent t.core (records_of t) q (empty q));
  counts = λ q r e.
      let there = ap is_some (held-there t q r (empty q) e) in
      let exact = x.counted.exact q there in
      let none = no-change t.core q (empty q) in
      let here = ap count_in e in
      omega (arith, ints);
}
