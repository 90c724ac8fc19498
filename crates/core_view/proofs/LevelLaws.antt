-- When exact counts stay: the held heap stays, and sums follow the owed words.
use Rattle.std.proofs.Common.{count_by, ◌==◌, ◌≡◌, ℕ, pos, ◌+ℤ◌, ◌+◌, ◌<◌, ◌≤◌, Bool, true, false, cond, eqb, List, ◌∷◌, Option, Some, refl, sym, ◌∙◌, ap, subst, arith}
use Rattle.std.proofs.lemmas.Grind.{common_steps}
use Rattle.std.proofs.lemmas.Int.{ints}
use Rattle.std.proofs.lemmas.List.Sums.{sum_by-cons}
use Rattle.long_names.specs.declared.value.Value.{Value}
use Rattle.long_names.specs.declared.value.Value.TheVariants.{Ref}
use Rattle.long_names.specs.declared.object.Object.{Object}
use Rattle.long_names.specs.Heap.{Heap, Has, count_of}
use Rattle.core_view.specs.Held.{held}
use Rattle.long_names.proofs.CountLaws.{eqb-here, eqb-other, word_is}
use Rattle.core_view.specs.Levels.{Levels, records_of, heap_of, sum_of, is_waiting}
use Rattle.std.specs.Prelude.{◌^◌}
use Rattle.core_view.specs.Counted.{words, one_if, IsCounted, IsSound}

-- ---- heaps

pub heap-is : (f : ℕ → Option Object) (next : ℕ) (h : Heap) → f ≡ h.at → next ≡ h.next → (record { at = f; next = next }) ≡ h
heap-is f next h same e =
    ap (λ (g : ℕ → Option Object). let x : Heap = record { at = g; next = next } in x) same
    ∙ ap (λ (n : ℕ). let x : Heap = record { at = h.at; next = n } in x) e

pub heap-same : (t u : Levels) → held u.core (records_of u) ≡ held t.core (records_of t) → u.next ≡ t.next → heap_of u ≡ heap_of t
heap-same t u same next = heap-is (held u.core (records_of u)) u.next (heap_of t) same next

-- ---- words

pub words-cons : (v : Value) (vs : List Value) (q : ℕ) → words (v ∷ vs) q ≡ word_is q v + words vs q
words-cons v vs q = sum_by-cons (λ x. word_is q x) v vs

pub word-here : (n : ℕ) → word_is n (Ref n) ≡ 1
word-here n = ap (λ b. let k : ℕ = cond b 1 0 in k) (eqb-here n)

pub word-other : (n q : ℕ) → (q ≡ n → ⊥) → word_is q (Ref n) ≡ 0
word-other n q other = ap (λ b. let k : ℕ = cond b 1 0 in k) (eqb-other n q (λ is. other (sym is)))

pub by_name : {P : ℕ → Type 0} (n : ℕ) → P n → ((q : ℕ) → (q ≡ n → ⊥) → P q) → (q : ℕ) → P q
by_name {P} n here other q = go (eqb q n) refl
  where
    go : (b : Bool) → eqb q n ≡ b → P q
    go true e = let is : q ≡ n = grind (arith, common_steps, e) in subst P (sym is) here
    go false e = other q (grind (arith, common_steps, e))

-- ---- the law

-- the heap stays, and each sum differs as the owed words do
pub counted-step : (t u : Levels) (owed now : List Value) → IsCounted t owed → heap_of u ≡ heap_of t
    → ((q : ℕ) → Has (heap_of t) q → sum_of u q +ℤ pos (words owed q) ≡ sum_of t q +ℤ pos (words now q))
    → ((q : ℕ) → count_by (λ x. x == q) u.pending ≡ one_if (is_waiting u q))
    → ((q s : ℕ) → u.core.find q ≡ Some s → Has (heap_of t) q)
    → ((q : ℕ) → 0 < words now q → Has (heap_of t) q)
    → IsCounted u now
counted-step t u owed now x same sums waiting entered named = record {
  exact = λ q there. exact q (subst (λ h. Has h q) same there);
  waiting = waiting;
  entered = λ q s e. subst (λ h. Has h q) (sym same) (entered q s e);
  named = λ q e. subst (λ h. Has h q) (sym same) (named q e);
}
  where
    exact : (q : ℕ) → Has (heap_of t) q → sum_of u q ≡ pos (count_of (heap_of u) q + words now q)
    exact q there =
        let a = x.exact q there in
        let b = sums q there in
        let c = ap (λ h. count_of h q) same in
        omega (arith, ints)

-- the heap changes too
pub counted-over : (t u : Levels) (owed now : List Value) → IsCounted t owed
    → ((q : ℕ) → Has (heap_of u) q → Has (heap_of t) q)
    → ((q : ℕ) → Has (heap_of u) q → sum_of u q ≡ sum_of t q)
    → ((q : ℕ) → Has (heap_of u) q → count_of (heap_of u) q + words now q ≡ count_of (heap_of t) q + words owed q)
    → ((q : ℕ) → count_by (λ x. x == q) u.pending ≡ one_if (is_waiting u q))
    → ((q s : ℕ) → u.core.find q ≡ Some s → Has (heap_of u) q)
    → ((q : ℕ) → 0 < words now q → Has (heap_of u) q)
    → IsCounted u now
counted-over t u owed now x had sums counts waiting entered named = record {
  exact = λ q there. sums q there ∙ x.exact q (had q there) ∙ ap (λ k. pos k) (sym (counts q there));
  waiting = waiting;
  entered = entered;
  named = named;
}

-- only how often each name is owed counts
pub sound-as : (t : Levels) (owed now : List Value) → IsSound t owed → ((q : ℕ) → words now q ≡ words owed q) → IsSound t now
sound-as t owed now x same = record {
  core = x.core;
  backed = x.backed;
  counted = record {
    exact = λ q there. x.counted.exact q there ∙ ap (λ k. pos (count_of (heap_of t) q + k)) (sym (same q));
    waiting = x.counted.waiting;
    entered = x.counted.entered;
    named = λ q e. x.counted.named q (subst (λ k. 0 < k) (same q) e);
  };
  small = record { stored = x.small.stored; counts = λ q. subst (λ k. count_of (heap_of t) q + k ≤ 2 ^ 62) (sym (same q)) (x.small.counts q) };
  heap = x.heap;
}
