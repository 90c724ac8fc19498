-- Laws of heaps from which objects are freed that no word holds.
use Rattle.std.proofs.Common.{◌≡◌, ℕ, ◌+◌, nat_lt, Bool, true, false, ◌||◌, cond, eqb, Option, Some, None, is_some, refl, sym, ◌∙◌, ap, ap₂, subst, arith}
use Rattle.std.proofs.lemmas.Grind.{common_steps}
use mathlib.Core.Path.{fun_ext}
use Rattle.long_names.specs.declared.object.Object.{Object}
use Rattle.long_names.specs.Names.{is_known}
use Rattle.long_names.specs.Objects.{holdings}
use Rattle.long_names.specs.Heap.{Heap, Has, IsBounded, without, object_count, count_of}
use Rattle.long_names.specs.Kept.{is_left, kept, no_roots}
pub use Rattle.long_names.proofs.CountLaws.{without-here}
use Rattle.long_names.proofs.CountLaws.{words_in, one_if_there, freed-count, freed-objects, kept-rooted}
use Rattle.long_names.proofs.ThinLemmas.{has_below}
use Rattle.long_names.proofs.KeptLaws.{IsPart, IsFixed, IsPart-trans, bounded-part, left-part, left-counted, kept-part, kept-fixed, kept-greatest, parts-same}

-- ---- an object that leaves

-- what is left is there
pub without-part : (h : Heap) (n : ℕ) → IsPart (without h n) h
without-part h n = record { next = refl; same = λ k o e. go k o (eqb k n) e }
  where
    go : (k : ℕ) (o : Object) (b : Bool) → cond b None (h.at k) ≡ Some o → h.at k ≡ Some o
    go k o true e = let f : ◌≡◌ {A = Option Object} None (Some o) = e in cc
    go k o false e = e

-- without an object that isn't there
pub without-none : (h : Heap) (n : ℕ) → h.at n ≡ None → without h n ≡ h
without-none h n none = ap (λ (f : ℕ → Option Object). let x : Heap = record { at = f; next = h.next } in x) (fun_ext (λ k. go k (eqb k n) refl))
  where
    go : (k : ℕ) (b : Bool) → eqb k n ≡ b → cond (eqb k n) None (h.at k) ≡ h.at k
    go k true e = let is : k ≡ n = grind (arith, common_steps, e) in ap (λ b. cond b None (h.at k)) e ∙ sym (ap h.at is ∙ none)
    go k false e = ap (λ b. cond b None (h.at k)) e

-- the words of an object leave with it
pub count-without : (h : Heap) (n : ℕ) (o : Object) (q : ℕ) → IsBounded h → h.at n ≡ Some o → count_of (without h n) q + holdings o q ≡ count_of h q
count-without h n o q b there = ap (λ x. count_of (without h n) q + words_in q x) (sym there) ∙ freed-count h n q (has_below h n b (ap is_some there))

pub object_count-without : (h : Heap) (n : ℕ) (o : Object) → IsBounded h → h.at n ≡ Some o → object_count (without h n) + 1 ≡ object_count h
object_count-without h n o b there = ap (λ x. object_count (without h n) + one_if_there x) (sym there) ∙ freed-objects h n (has_below h n b (ap is_some there))

-- ---- what is kept

-- a fixed part of a heap has no object that a sweep takes from the heap
fixed-without : (f h : Heap) (root : ℕ → Bool) (n : ℕ) → IsFixed f root → IsPart f h → IsBounded h → is_left h root n ≡ false → IsPart f (without h n)
fixed-without f h root n fix p b dead = record { next = p.next; same = λ k o e. go k o e (eqb k n) refl }
  where
    go : (k : ℕ) (o : Object) → f.at k ≡ Some o → (x : Bool) → eqb k n ≡ x → cond (eqb k n) None (h.at k) ≡ Some o
    go k o e true g =
        let is : k ≡ n = grind (arith, common_steps, g) in
        let left : is_left h root n ≡ true = subst (λ x. is_left h root x ≡ true) is (left-part f h root k p b (fix.fixed k (ap is_some e))) in
        absurd (cc)
    go k o e false g = ap (λ x. cond x None (h.at k)) g ∙ p.same k o e

-- freeing an object that a sweep takes away, or one that isn't there, keeps what is kept
pub kept-without : (h : Heap) (root : ℕ → Bool) (n : ℕ) → IsBounded h → is_left h root n ≡ false → kept (without h n) root ≡ kept h root
kept-without h root n b dead = parts-same (kept (without h n) root) (kept h root) first second
  where
    bound : IsBounded (without h n)
    bound = bounded-part (without h n) h (without-part h n) b

    first : IsPart (kept (without h n) root) (kept h root)
    first = kept-greatest (kept (without h n) root) h root (kept-fixed (without h n) root bound) (IsPart-trans (kept (without h n) root) (without h n) h (kept-part (without h n) root) (without-part h n)) b

    second : IsPart (kept h root) (kept (without h n) root)
    second = kept-greatest (kept h root) (without h n) root (kept-fixed h root b) (fixed-without (kept h root) h root n (kept-fixed h root b) (kept-part h root) b dead) bound

-- without roots, where no word is the name, and it isn't known
pub kept-free : (h : Heap) (n : ℕ) → IsBounded h → count_of h n ≡ 0 → is_known n ≡ false → kept (without h n) no_roots ≡ kept h no_roots
kept-free h n b none unknown = kept-without h no_roots n b (left-counted h n ∙ ap₂ (λ x k. x || nat_lt 0 k) unknown none)

-- where each object is known or a word is its name, all is kept
pub kept-counted : (h : Heap) → ((n : ℕ) → Has h n → count_of h n ≡ 0 → is_known n ≡ false → ⊥) → kept h no_roots ≡ h
kept-counted h none = kept-rooted h no_roots (λ n there unknown out uncounted. none n there uncounted unknown)
