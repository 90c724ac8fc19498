-- A set of lost objects each of which one of the set holds has a cycle, and a cycle is such a set.
use Rattle.std.proofs.Common.{zero, suc, ◌≡◌, ℕ, ◌+◌, Bool, true, false, ◌||◌, eqb, List, [], ◌∷◌, length, Some, None, is_some, refl, sym, ap, subst, arith, ◌⊎◌, inl, inr}
use Rattle.std.specs.List.{All, AllByRecursion, IsDistinct, list_any}
use Rattle.std.proofs.lemmas.Bool.{eq-eqb, eqb-true}
use Rattle.std.proofs.lemmas.List.Elements.{All-cons, All-nil, All-head, All-tail}
use Rattle.std.proofs.lemmas.Map.Keys.{IsDistinct-cons}
use Rattle.std.proofs.lemmas.Map.Steps.{length-le_from_distinct_below}
use Rattle.long_names.specs.declared.object.Object.{Object}
use Rattle.long_names.specs.Heap.{Heap, Has, IsBounded}
use Rattle.long_names.specs.Kept.{holds_at}
use Rattle.long_names.specs.Thin.{IsHeldFrom, IsLostCycle, IsThinner, IsPath, IsLostRing}
use Rattle.long_names.proofs.ThinLemmas.{has_below, or_cases, or_first, or_second}
use Rattle.long_names.proofs.KeptLaws.{holder, holding}

-- the name is one of these
abbrev is_in : ℕ → List ℕ → Bool
is_in k names = list_any (eqb k) names

in-all : (P : ℕ → Type 0) (names : List ℕ) → All P names → (k : ℕ) → is_in k names ≡ true → P k
in-all P [] all k e = cc
in-all P (n ∷ rest) all k e = elim (or_cases (eqb k n) (is_in k rest) e) [ inl here ↦ subst P (sym (eqb-true k n here)) (All-head P n rest all) | inr later ↦ in-all P rest (All-tail P n rest all) k later ]

all-in : (P : ℕ → Type 0) (names : List ℕ) → ((k : ℕ) → is_in k names ≡ true → P k) → All P names
all-in P [] each = All-nil P
all-in P (n ∷ rest) each = All-cons P n rest (each n (or_first (eqb n n) (is_in n rest) (eq-eqb n n refl))) (all-in P rest (λ k e. each k (or_second (eqb k n) (is_in k rest) e)))

-- ---- a cycle is a set of which each is held by one of the set

holder-has : (h : Heap) (k n : ℕ) → holds_at h k n ≡ true → Has h k
holder-has h k n e = let it = holder h k n e in ap is_some it.1

path-has : (h : Heap) (from : ℕ) (names : List ℕ) (to : ℕ) → IsPath h from names to → (k : ℕ) → is_in k (from ∷ names) ≡ true → Has h k
path-has h from [] to path k e = elim (or_cases (eqb k from) false e) [ inl here ↦ subst (λ q. Has h q) (sym (eqb-true k from here)) (holder-has h from to path) | inr none ↦ absurd (let no : ◌≡◌ {A = Bool} false true = none in cc) ]
path-has h from (n ∷ rest) to path k e = elim (or_cases (eqb k from) (is_in k (n ∷ rest)) e) [ inl here ↦ subst (λ q. Has h q) (sym (eqb-true k from here)) (holder-has h from n path.0) | inr later ↦ path-has h n rest to path.1 k later ]

-- each name of a path but the first is held on it
path-held : (h : Heap) (from : ℕ) (names : List ℕ) (to : ℕ) → IsPath h from names to → (k : ℕ) → (is_in k names ≡ true) ⊎ (k ≡ to) → (by : ℕ) × (is_in by (from ∷ names) ≡ true) × (holds_at h by k ≡ true)
path-held h from [] to path k (inl none) = absurd (let no : ◌≡◌ {A = Bool} false true = none in cc)
path-held h from [] to path k (inr last) = (from, or_first (eqb from from) false (eq-eqb from from refl), subst (λ q. holds_at h from q ≡ true) (sym last) path)
path-held h from (n ∷ rest) to path k (inl e) = elim (or_cases (eqb k n) (is_in k rest) e) [ inl here ↦ (from, or_first (eqb from from) (is_in from (n ∷ rest)) (eq-eqb from from refl), subst (λ q. holds_at h from q ≡ true) (sym (eqb-true k n here)) path.0) | inr later ↦ further (path-held h n rest to path.1 k (inl later)) ]
  where
    further : (by : ℕ) × (is_in by (n ∷ rest) ≡ true) × (holds_at h by k ≡ true) → (by : ℕ) × (is_in by (from ∷ n ∷ rest) ≡ true) × (holds_at h by k ≡ true)
    further g = (g.0, or_second (eqb g.0 from) (is_in g.0 (n ∷ rest)) g.1, g.2)
path-held h from (n ∷ rest) to path k (inr last) = further (path-held h n rest to path.1 k (inr last))
  where
    further : (by : ℕ) × (is_in by (n ∷ rest) ≡ true) × (holds_at h by k ≡ true) → (by : ℕ) × (is_in by (from ∷ n ∷ rest) ≡ true) × (holds_at h by k ≡ true)
    further g = (g.0, or_second (eqb g.0 from) (is_in g.0 (n ∷ rest)) g.1, g.2)

ring-set : (h s : Heap) (n : ℕ) (rest : List ℕ) → IsLostRing h s n rest → IsLostCycle h s (λ k. is_in k (n ∷ rest))
ring-set h s n rest r = record {
  had = λ k e. path-has h n rest n r.round k e;
  lost = λ k e. in-all (λ k. s.at k ≡ None) (n ∷ rest) r.lost k e;
  held = λ k e. held k (elim (or_cases (eqb k n) (is_in k rest) e) as (λ x. (is_in k rest ≡ true) ⊎ (k ≡ n)) [ inl here ↦ inr (eqb-true k n here) | inr later ↦ inl later ]);
}
  where
    held : (k : ℕ) → (is_in k rest ≡ true) ⊎ (k ≡ n) → IsHeldFrom h (λ k. is_in k (n ∷ rest)) k
    held k x =
        let g = path-held h n rest n r.round k x in
        let it = holder h g.0 k g.2 in
        record { by = g.0; object = it.0; inside = g.1; there = it.1; holds_it = it.2 }

-- no list of lost objects goes round
pub no-ring : (h s : Heap) (n : ℕ) (rest : List ℕ) → IsThinner h s → IsLostRing h s n rest → ⊥
no-ring h s n rest t r =
    let not : is_in n (n ∷ rest) ≡ false = t.acyclic (λ k. is_in k (n ∷ rest)) (ring-set h s n rest r) n in
    let yes : is_in n (n ∷ rest) ≡ true = or_first (eqb n n) (is_in n rest) (eq-eqb n n refl) in
    none (is_in n (n ∷ rest)) yes not
  where
    none : (b : Bool) → b ≡ true → b ≡ false → ⊥
    none true e f = cc
    none false e f = cc

-- ---- and such a set has a cycle, since a heap is finite

-- each object holds the name before it
abbrev IsTrail : Heap → ℕ → List ℕ → Type 0
IsTrail h x [] = Unit {0}
IsTrail h x (y ∷ rest) = (holds_at h x y ≡ true) × IsTrail h y rest

-- a path from a name to another by names of a set
record IsBack (h : Heap) (set : ℕ → Bool) (from to : ℕ) : Type 0 where
  names : List ℕ
  path : IsPath h from names to
  inside : (k : ℕ) → is_in k names ≡ true → set k ≡ true

back-once : (h : Heap) (set : ℕ → Bool) (from to : ℕ) → holds_at h from to ≡ true → IsBack h set from to
back-once h set from to held = record { names = []; path = held; inside = λ k e. let no : ◌≡◌ {A = Bool} false true = e in absurd (cc) }

back-further : (h : Heap) (set : ℕ → Bool) (from by to : ℕ) → holds_at h from by ≡ true → set by ≡ true → IsBack h set by to → IsBack h set from to
back-further h set from by to held in_set g = record {
  names = by ∷ g.names;
  path = (held, g.path);
  inside = λ k e. elim (or_cases (eqb k by) (is_in k g.names) e) [ inl here ↦ subst (λ q. set q ≡ true) (sym (eqb-true k by here)) in_set | inr later ↦ g.inside k later ];
}

-- a trail that comes back to one of its names has a path to there
back : (h : Heap) (set : ℕ → Bool) (from x to : ℕ) (names : List ℕ) → holds_at h from x ≡ true → IsTrail h x names → ((k : ℕ) → is_in k (x ∷ names) ≡ true → set k ≡ true) → is_in to (x ∷ names) ≡ true → IsBack h set from to
back h set from x to [] held trail inside e = elim (or_cases (eqb to x) false e) [ inl here ↦ back-once h set from to (subst (λ q. holds_at h from q ≡ true) (sym (eqb-true to x here)) held) | inr none ↦ absurd (let no : ◌≡◌ {A = Bool} false true = none in cc) ]
back h set from x to (z ∷ rest) held trail inside e = elim (or_cases (eqb to x) (is_in to (z ∷ rest)) e) [ inl here ↦ back-once h set from to (subst (λ q. holds_at h from q ≡ true) (sym (eqb-true to x here)) held) | inr later ↦ back-further h set from x to held (inside x (or_first (eqb x x) (is_in x (z ∷ rest)) (eq-eqb x x refl))) (back h set x z to rest trail.0 trail.1 (λ k f. inside k (or_second (eqb k x) (is_in k (z ∷ rest)) f)) later) ]

-- the names of a trail so far are distinct
none-equal : (y : ℕ) (names : List ℕ) → is_in y names ≡ false → AllByRecursion (λ z. eqb y z ≡ false) names
none-equal y [] e = tt
none-equal y (z ∷ rest) e = go (eqb y z) refl e (none-equal y rest)
  where
    go : (b : Bool) → eqb y z ≡ b → (b || is_in y rest) ≡ false → (is_in y rest ≡ false → AllByRecursion (λ z. eqb y z ≡ false) rest) → AllByRecursion (λ z. eqb y z ≡ false) (z ∷ rest)
    go true f e next = let no : ◌≡◌ {A = Bool} true false = e in absurd (cc)
    go false f e next = (f, next e)

-- from a name of the set, ever to one that holds it: a trail of names that differ is no longer than the heap, so it comes back
walk : (h s : Heap) (set : ℕ → Bool) → IsBounded h → IsLostCycle h s set → ((n : ℕ) (rest : List ℕ) → IsLostRing h s n rest → ⊥) → (steps x : ℕ) (names : List ℕ) → IsTrail h x names → ((k : ℕ) → is_in k (x ∷ names) ≡ true → set k ≡ true) → IsDistinct eqb (x ∷ names) → length (x ∷ names) + steps ≡ h.next + 1 → ⊥
walk h s set b c rings zero x names trail inside distinct e =
    let few = length-le_from_distinct_below (x ∷ names) h.next distinct (λ q f. has_below h q b (c.had q (inside q f))) in
    omega arith
walk h s set b c rings (suc steps) x names trail inside distinct e = go (is_in y (x ∷ names)) refl (walk h s set b c rings steps y (x ∷ names))
  where
    held : IsHeldFrom h set x
    held = c.held x (inside x (or_first (eqb x x) (is_in x names) (eq-eqb x x refl)))

    y : ℕ
    y = held.by

    holds_it : holds_at h y x ≡ true
    holds_it = holding h y x held.object held.there held.holds_it

    ring : is_in y (x ∷ names) ≡ true → ⊥
    ring f =
        let g = back h set y x y names holds_it trail inside f in
        rings y g.names (record { round = g.path; lost = all-in (λ k. s.at k ≡ None) (y ∷ g.names) (λ k e. c.lost k (elim (or_cases (eqb k y) (is_in k g.names) e) as (λ v. set k ≡ true) [ inl here ↦ subst (λ q. set q ≡ true) (sym (eqb-true k y here)) held.inside | inr later ↦ g.inside k later ])) })

    go : (found : Bool) → is_in y (x ∷ names) ≡ found → (IsTrail h y (x ∷ names) → ((k : ℕ) → is_in k (y ∷ x ∷ names) ≡ true → set k ≡ true) → IsDistinct eqb (y ∷ x ∷ names) → length (y ∷ x ∷ names) + steps ≡ h.next + 1 → ⊥) → ⊥
    go true f next = ring f
    go false f next = next (holds_it, trail) (λ k e. elim (or_cases (eqb k y) (is_in k (x ∷ names)) e) [ inl here ↦ subst (λ q. set q ≡ true) (sym (eqb-true k y here)) held.inside | inr later ↦ inside k later ]) (IsDistinct-cons eqb y (x ∷ names) (none-equal y (x ∷ names) f) distinct) (omega arith)

-- a part of a heap with its next name is thinner where no list of lost objects goes round
pub thinner-no-ring : (h s : Heap) → IsBounded h → s.next ≡ h.next → ((n : ℕ) (o : Object) → s.at n ≡ Some o → h.at n ≡ Some o) → ((n : ℕ) (rest : List ℕ) → IsLostRing h s n rest → ⊥) → IsThinner h s
unfolding IsDistinct
thinner-no-ring h s b next same rings = record { next = next; same = same; acyclic = λ set c n. none set c n (set n) refl }
  where
    none : (set : ℕ → Bool) → IsLostCycle h s set → (n : ℕ) (x : Bool) → set n ≡ x → set n ≡ false
    none set c n false e = e
    none set c n true e = absurd (walk h s set b c rings h.next n [] tt (λ k f. elim (or_cases (eqb k n) false f) [ inl here ↦ subst (λ q. set q ≡ true) (sym (eqb-true k n here)) e | inr nothing ↦ absurd (let f : ◌≡◌ {A = Bool} false true = nothing in cc) ]) (IsDistinct-cons eqb n [] tt tt) (omega arith))
