-- The kept objects are the greatest part of a heap from which no sweep takes anything, and a thinning has the same.
use Rattle.std.proofs.Common.{zero, suc, ◌≡◌, ℕ, ◌+◌, ◌<◌, ◌≤◌, nat_lt, Bool, true, false, ◌||◌, ◌&&◌, cond, eqb, Option, Some, None, is_some, refl, sym, ◌∙◌, ap, ap₂, subst, arith, ◌⊎◌, inl, inr, List, [], ◌∷◌}
use borrow.Author.Tests.{ltb-true, ltb-false}
use mathlib.Core.Path.{fun_ext}
use Rattle.std.specs.Option.{option_map_or}
use Rattle.std.specs.List.{list_any, count_by}
use Rattle.std.proofs.lemmas.List.Sums.{sum_by-cons}
use Rattle.std.proofs.lemmas.Grind.{common_steps}
use Rattle.long_names.specs.declared.object.Object.{Object}
use Rattle.long_names.specs.declared.value.Value.{Value}
use Rattle.long_names.specs.Names.{is_known}
use Rattle.long_names.specs.Objects.{holds, holdings, is_ref, fields_of}
use Rattle.long_names.specs.Heap.{Heap, Has, IsBounded, objects_below, object_count, holdings_below, count_of}
use Rattle.long_names.specs.Kept.{any_below, holds_at, is_left, sweep, sweeps, kept, no_roots}
use Rattle.long_names.specs.Thin.{IsHeldFrom, IsLostCycle, IsThinner, IsClosed, IsThinning}
use Rattle.long_names.proofs.ThinLemmas.{has, below, both, or_first, or_second}

-- f is some of the objects of s
pub record IsPart (f s : Heap) : Type 0 where
  pub next : f.next ≡ s.next
  pub same : (n : ℕ) (o : Object) → f.at n ≡ Some o → s.at n ≡ Some o

-- no sweep takes anything away
pub record IsFixed (f : Heap) (root : ℕ → Bool) : Type 0 where
  pub fixed : (n : ℕ) → Has f n → is_left f root n ≡ true

pub IsPart-refl : (h : Heap) → IsPart h h
IsPart-refl h = record { next = refl; same = λ n o e. e }

pub IsPart-trans : (f g h : Heap) → IsPart f g → IsPart g h → IsPart f h
IsPart-trans f g h a b = record { next = a.next ∙ b.next; same = λ n o e. b.same n o (a.same n o e) }

pub sweep-part : (h : Heap) (root : ℕ → Bool) → IsPart (sweep h root) h
sweep-part h root = record { next = refl; same = λ n o e. go n o (is_left h root n) e }
  where
    go : (n : ℕ) (o : Object) (b : Bool) → cond b (h.at n) None ≡ Some o → h.at n ≡ Some o
    go n o true e = e
    go n o false e = let f : ◌≡◌ {A = Option Object} None (Some o) = e in cc

pub sweeps-part : (n : ℕ) (h : Heap) (root : ℕ → Bool) → IsPart (sweeps n h root) h
sweeps-part zero h root = IsPart-refl h
sweeps-part (suc n) h root = IsPart-trans (sweep (sweeps n h root) root) (sweeps n h root) h (sweep-part (sweeps n h root) root) (sweeps-part n h root)

pub bounded-part : (f h : Heap) → IsPart f h → IsBounded h → IsBounded f
bounded-part f h p b = record { bounded = λ n le. let next = p.next in go n (f.at n) refl (b.bounded n (omega arith)) }
  where
    go : (n : ℕ) (o : Option Object) → f.at n ≡ o → h.at n ≡ None → f.at n ≡ None
    go n None e none = e
    go n (Some o) e none = let there = p.same n o e in absurd (cc)

-- ---- tests

pub any_below-at : (n : ℕ) (f : ℕ → Bool) → any_below n f ≡ true → (k : ℕ) × (f k ≡ true)
any_below-at zero f e = cc
any_below-at (suc n) f e = go (f n) refl e (any_below-at n f)
  where
    go : (b : Bool) → f n ≡ b → (b || any_below n f) ≡ true → (any_below n f ≡ true → (k : ℕ) × (f k ≡ true)) → (k : ℕ) × (f k ≡ true)
    go true g e next = (n, g)
    go false g e next = next e

pub any_below-from : (n : ℕ) (f : ℕ → Bool) (k : ℕ) → k < n → f k ≡ true → any_below n f ≡ true
any_below-from zero f k low e = absurd (omega arith)
any_below-from (suc n) f k low e = go (eqb k n) refl (any_below-from n f k)
  where
    go : (b : Bool) → eqb k n ≡ b → (k < n → f k ≡ true → any_below n f ≡ true) → (f n || any_below n f) ≡ true
    go true g next = let is : k ≡ n = grind (arith, common_steps, g) in ap (λ b. b || any_below n f) (ap f (sym is) ∙ e)
    go false g next = or_second (f n) (any_below n f) (next (grind (arith, common_steps, g)) e)

pub holder : (h : Heap) (k n : ℕ) → holds_at h k n ≡ true → (o : Object) × (h.at k ≡ Some o) × (holds o n ≡ true)
holder h k n e = go (h.at k) refl e
  where
    go : (o : Option Object) → h.at k ≡ o → option_map_or (λ (o : Object). holds o n) o false ≡ true → (o : Object) × (h.at k ≡ Some o) × (holds o n ≡ true)
    go None g e = cc
    go (Some o) g e = (o, g, e)

pub holding : (h : Heap) (k n : ℕ) (o : Object) → h.at k ≡ Some o → holds o n ≡ true → holds_at h k n ≡ true
holding h k n o e f = ap (λ x. option_map_or (λ (o : Object). holds o n) x false) e ∙ f

-- what is left of a part is left of the whole
pub left-part : (f s : Heap) (root : ℕ → Bool) (n : ℕ) → IsPart f s → IsBounded s → is_left f root n ≡ true → is_left s root n ≡ true
left-part f s root n p b e = go (is_known n) (root n) e
  where
    held : any_below f.next (λ k. holds_at f k n) ≡ true → any_below s.next (λ k. holds_at s k n) ≡ true
    held e =
        let it = any_below-at f.next (λ k. holds_at f k n) e in
        let by = holder f it.0 n it.1 in
        let there = p.same it.0 by.0 by.1 in
        any_below-from s.next (λ k. holds_at s k n) it.0 (below s it.0 by.0 b there) (holding s it.0 n by.0 there by.2)

    go : (a c : Bool) → (a || (c || any_below f.next (λ k. holds_at f k n))) ≡ true → (a || (c || any_below s.next (λ k. holds_at s k n))) ≡ true
    go true c e = refl
    go false true e = refl
    go false false e = held e

-- a fixed part of a heap is a part of what any number of sweeps leave
fixed-sweep : (f s : Heap) (root : ℕ → Bool) → IsFixed f root → IsPart f s → IsBounded s → IsPart f (sweep s root)
fixed-sweep f s root fix p b = record { next = p.next; same = λ n o e. ap (λ x. cond x (s.at n) None) (left-part f s root n p b (fix.fixed n (ap is_some e))) ∙ p.same n o e }

fixed-sweeps : (n : ℕ) (f s : Heap) (root : ℕ → Bool) → IsFixed f root → IsPart f s → IsBounded s → IsPart f (sweeps n s root)
fixed-sweeps zero f s root fix p b = p
fixed-sweeps (suc n) f s root fix p b = fixed-sweep f (sweeps n s root) root fix (fixed-sweeps n f s root fix p b) (bounded-part (sweeps n s root) s (sweeps-part n s root) b)

-- ---- after as many sweeps as there are objects nothing is taken away

abbrev one : Option Object → ℕ
one o = cond (is_some o) 1 0

swept : (h : Heap) (root : ℕ → Bool) (k : ℕ) → one ((sweep h root).at k) ≤ one (h.at k)
swept h root k = go (is_left h root k) (h.at k)
  where
    go : (b : Bool) (o : Option Object) → cond (is_some (cond b o None)) 1 0 ≤ cond (is_some o) 1 0
    go true o = omega arith
    go false None = omega arith
    go false (Some o) = omega arith

count-less : (n : ℕ) (h : Heap) (root : ℕ → Bool) → objects_below (sweep h root) n ≤ objects_below h n
count-less zero h root = omega arith
count-less (suc n) h root = let first = swept h root n in let rest = count-less n h root in omega arith

left-where : (h : Heap) (root : ℕ → Bool) (k : ℕ) → one ((sweep h root).at k) ≡ one (h.at k) → Has h k → is_left h root k ≡ true
left-where h root k e there = go (is_left h root k) (h.at k) e there
  where
    go : (b : Bool) (o : Option Object) → one (cond b o None) ≡ one o → is_some o ≡ true → b ≡ true
    go true o e f = refl
    go false None e f = cc
    go false (Some o) e f = let x : ◌≡◌ {A = ℕ} 0 1 = e in absurd (omega arith)

count-same : (n : ℕ) (h : Heap) (root : ℕ → Bool) → objects_below (sweep h root) n ≡ objects_below h n → (k : ℕ) → k < n → Has h k → is_left h root k ≡ true
count-same zero h root e k low there = absurd (omega arith)
count-same (suc n) h root e k low there =
    let first = swept h root n in
    let rest = count-less n h root in
    let same : objects_below (sweep h root) n ≡ objects_below h n = omega arith in
    let here : one ((sweep h root).at n) ≡ one (h.at n) = omega arith in
    go (eqb k n) refl here (count-same n h root same k)
  where
    go : (b : Bool) → eqb k n ≡ b → one ((sweep h root).at n) ≡ one (h.at n) → (k < n → Has h k → is_left h root k ≡ true) → is_left h root k ≡ true
    go true f here next = let is : k ≡ n = grind (arith, common_steps, f) in left-where h root k (subst (λ x. one ((sweep h root).at x) ≡ one (h.at x)) (sym is) here) there
    go false f here next = next (grind (arith, common_steps, f)) there

pub fixed-same : (h : Heap) (root : ℕ → Bool) → IsFixed h root → sweep h root ≡ h
fixed-same h root fix = ap (λ (g : ℕ → Option Object). let x : Heap = record { at = g; next = h.next } in x) (fun_ext (λ n. go n (h.at n) refl (is_left h root n) refl))
  where
    go : (n : ℕ) (o : Option Object) → h.at n ≡ o → (b : Bool) → is_left h root n ≡ b → cond (is_left h root n) (h.at n) None ≡ h.at n
    go n o e true f = ap (λ b. cond b (h.at n) None) f
    go n None e false f = ap (λ b. cond b (h.at n) None) f ∙ sym e
    go n (Some o) e false f = let must = fix.fixed n (ap is_some e) in absurd (cc)

steps : (i : ℕ) (h : Heap) (root : ℕ → Bool) → IsBounded h → IsFixed (sweeps i h root) root ⊎ (objects_below (sweeps i h root) h.next + i ≤ objects_below h h.next)
steps zero h root b = inr (omega arith)
steps (suc i) h root b = go (steps i h root b)
  where
    f : Heap
    f = sweeps i h root

    part : IsPart f h
    part = sweeps-part i h root

    bound : IsBounded f
    bound = bounded-part f h part b

    stays : IsFixed f root → IsFixed (sweep f root) root
    stays fix = subst (λ x. IsFixed x root) (sym (fixed-same f root fix)) fix

    settled : objects_below (sweep f root) h.next ≡ objects_below f h.next → IsFixed f root
    settled e = record {
      fixed = λ n there.
          let it = has f n there in
          let low = below f n it.0 bound it.1 in
          let next = part.next in
          count-same h.next f root e n (omega arith) there;
    }

    other : (x : Bool) → nat_lt (objects_below (sweep f root) h.next) (objects_below f h.next) ≡ x → objects_below f h.next + i ≤ objects_below h h.next → IsFixed (sweep f root) root ⊎ (objects_below (sweep f root) h.next + suc i ≤ objects_below h h.next)
    other true e le = let less = ltb-true (objects_below (sweep f root) h.next) (objects_below f h.next) e in inr (omega arith)
    other false e le =
        let above = ltb-false (objects_below (sweep f root) h.next) (objects_below f h.next) e in
        let below = count-less h.next f root in
        inl (stays (settled (omega arith)))

    go : IsFixed f root ⊎ (objects_below f h.next + i ≤ objects_below h h.next) → IsFixed (sweep f root) root ⊎ (objects_below (sweep f root) h.next + suc i ≤ objects_below h h.next)
    go (inl fix) = inl (stays fix)
    go (inr le) = other (nat_lt (objects_below (sweep f root) h.next) (objects_below f h.next)) refl le

none-counted : (n : ℕ) (h : Heap) → objects_below h n ≡ 0 → (k : ℕ) → k < n → Has h k → ⊥
none-counted zero h e k low there = omega arith
none-counted (suc n) h e k low there = go (eqb k n) refl (none-counted n h (omega arith) k)
  where
    first : one (h.at n) ≡ 0
    first = omega arith

    go : (b : Bool) → eqb k n ≡ b → (k < n → Has h k → ⊥) → ⊥
    go true f next = let is : k ≡ n = grind (arith, common_steps, f) in let here : is_some (h.at n) ≡ true = subst (λ x. Has h x) is there in let x : ◌≡◌ {A = ℕ} 1 0 = sym (ap (λ b. let z : ℕ = cond b 1 0 in z) here) ∙ first in omega arith
    go false f next = next (grind (arith, common_steps, f)) there

-- the kept objects are a fixed point
pub kept-fixed : (h : Heap) (root : ℕ → Bool) → IsBounded h → IsFixed (kept h root) root
unfolding kept object_count
kept-fixed h root b = go (steps (objects_below h h.next) h root b)
  where
    f : Heap
    f = sweeps (objects_below h h.next) h root

    empty : objects_below f h.next ≡ 0 → IsFixed f root
    empty e = record {
      fixed = λ n there.
          let part = sweeps-part (objects_below h h.next) h root in
          let it = has f n there in
          let next = part.next in
          let low = below f n it.0 (bounded-part f h part b) it.1 in
          absurd (none-counted h.next f e n (omega arith) there);
    }

    go : IsFixed f root ⊎ (objects_below f h.next + objects_below h h.next ≤ objects_below h h.next) → IsFixed f root
    go (inl fix) = fix
    go (inr le) = empty (omega arith)

pub kept-part : (h : Heap) (root : ℕ → Bool) → IsPart (kept h root) h
unfolding kept object_count
kept-part h root = sweeps-part (objects_below h h.next) h root

pub kept-greatest : (f h : Heap) (root : ℕ → Bool) → IsFixed f root → IsPart f h → IsBounded h → IsPart f (kept h root)
unfolding kept object_count
kept-greatest f h root fix p b = fixed-sweeps (objects_below h h.next) f h root fix p b

-- ---- a sweep keeps what is kept

both_ways : (a c : Option Object) → ((o : Object) → a ≡ Some o → c ≡ Some o) → ((o : Object) → c ≡ Some o → a ≡ Some o) → a ≡ c
both_ways None None f g = refl
both_ways None (Some o) f g = g o refl
both_ways (Some o) None f g = sym (f o refl)
both_ways (Some o) (Some q) f g = sym (f o refl)

pub parts-same : (f g : Heap) → IsPart f g → IsPart g f → f ≡ g
parts-same f g a b =
    ap (λ (at : ℕ → Option Object). let x : Heap = record { at = at; next = f.next } in x) (fun_ext (λ n. both_ways (f.at n) (g.at n) (a.same n) (b.same n)))
    ∙ ap (λ (n : ℕ). let x : Heap = record { at = g.at; next = n } in x) a.next

pub kept-sweep : (h : Heap) (root : ℕ → Bool) → IsBounded h → kept (sweep h root) root ≡ kept h root
kept-sweep h root b = parts-same (kept (sweep h root) root) (kept h root) first second
  where
    bound : IsBounded (sweep h root)
    bound = bounded-part (sweep h root) h (sweep-part h root) b

    first : IsPart (kept (sweep h root) root) (kept h root)
    first = kept-greatest (kept (sweep h root) root) h root (kept-fixed (sweep h root) root bound) (IsPart-trans (kept (sweep h root) root) (sweep h root) h (kept-part (sweep h root) root) (sweep-part h root)) b

    second : IsPart (kept h root) (kept (sweep h root) root)
    second = kept-greatest (kept h root) (sweep h root) root (kept-fixed h root b) (fixed-sweep (kept h root) h root (kept-fixed h root b) (kept-part h root) b) bound

sweeps-same : (n : ℕ) (h : Heap) (root : ℕ → Bool) → sweep h root ≡ h → sweeps n h root ≡ h
sweeps-same zero h root e = refl
sweeps-same (suc n) h root e = ap (λ x. sweep x root) (sweeps-same n h root e) ∙ e

-- where a sweep leaves all, all is kept
pub kept-same : (h : Heap) (root : ℕ → Bool) → sweep h root ≡ h → kept h root ≡ h
unfolding kept
kept-same h root e = sweeps-same (object_count h) h root e

-- a sweep leaves as many objects or fewer
pub count-sweep : (h : Heap) (root : ℕ → Bool) → object_count (sweep h root) ≤ object_count h
unfolding object_count
count-sweep h root = count-less h.next h root

-- and where it leaves as many, it leaves all
pub sweep-same : (h : Heap) (root : ℕ → Bool) → IsBounded h → object_count (sweep h root) ≡ object_count h → sweep h root ≡ h
unfolding object_count
sweep-same h root b e = fixed-same h root (record { fixed = λ n there. let it = has h n there in count-same h.next h root e n (below h n it.0 b it.1) there })

-- what is kept is kept again
pub kept-again : (h : Heap) (root : ℕ → Bool) → IsBounded h → kept (kept h root) root ≡ kept h root
kept-again h root b = kept-same (kept h root) root (fixed-same (kept h root) root (kept-fixed h root b))

-- ---- what stays

stay-sweep : (h : Heap) (root : ℕ → Bool) (n : ℕ) → is_left h root n ≡ true → Has h n → Has (sweep h root) n
stay-sweep h root n left there = ap (λ b. is_some (cond b (h.at n) None)) left ∙ there

known-left : (h : Heap) (root : ℕ → Bool) (n : ℕ) → is_known n ≡ true → is_left h root n ≡ true
known-left h root n e = or_first (is_known n) (root n || any_below h.next (λ k. holds_at h k n)) e

root-left : (h : Heap) (root : ℕ → Bool) (n : ℕ) → root n ≡ true → is_left h root n ≡ true
root-left h root n e = or_second (is_known n) (root n || any_below h.next (λ k. holds_at h k n)) (or_first (root n) (any_below h.next (λ k. holds_at h k n)) e)

held-left : (h : Heap) (root : ℕ → Bool) (n k : ℕ) (o : Object) → IsBounded h → h.at k ≡ Some o → holds o n ≡ true → is_left h root n ≡ true
held-left h root n k o b there held =
    let by = any_below-from h.next (λ k. holds_at h k n) k (below h k o b there) (holding h k n o there held) in
    or_second (is_known n) (root n || any_below h.next (λ k. holds_at h k n)) (or_second (root n) (any_below h.next (λ k. holds_at h k n)) by)

-- what each sweep leaves is kept
stay-sweeps : (i : ℕ) (h : Heap) (root : ℕ → Bool) (n : ℕ) → ((g : Heap) → is_left g root n ≡ true) → Has h n → Has (sweeps i h root) n
stay-sweeps zero h root n left there = there
stay-sweeps (suc i) h root n left there = stay-sweep (sweeps i h root) root n (left (sweeps i h root)) (stay-sweeps i h root n left there)

-- known objects are kept
pub kept-known : (h : Heap) (root : ℕ → Bool) (n : ℕ) → is_known n ≡ true → Has h n → Has (kept h root) n
unfolding kept
kept-known h root n e there = stay-sweeps (object_count h) h root n (λ g. known-left g root n e) there

-- and so are roots
pub kept-root : (h : Heap) (root : ℕ → Bool) (n : ℕ) → root n ≡ true → Has h n → Has (kept h root) n
unfolding kept
kept-root h root n e there = stay-sweeps (object_count h) h root n (λ g. root-left g root n e) there

closed-sweep : (h : Heap) (root : ℕ → Bool) → IsBounded h → IsClosed h → IsClosed (sweep h root)
closed-sweep h root b closed n o k e held =
    let there = (sweep-part h root).same n o e in
    stay-sweep h root k (held-left h root k n o b there held) (closed n o k there held)

closed-sweeps : (i : ℕ) (h : Heap) (root : ℕ → Bool) → IsBounded h → IsClosed h → IsClosed (sweeps i h root)
closed-sweeps zero h root b closed = closed
closed-sweeps (suc i) h root b closed = closed-sweep (sweeps i h root) root (bounded-part (sweeps i h root) h (sweeps-part i h root) b) (closed-sweeps i h root b closed)

-- where each held name has its object, it has it among the kept
pub kept-closed : (h : Heap) (root : ℕ → Bool) → IsBounded h → IsClosed h → IsClosed (kept h root)
unfolding kept
kept-closed h root b closed = closed-sweeps (object_count h) h root b closed

-- ---- a thinning has the kept objects of the heap

-- a fixed part of a heap is a part of each thinning of it
pub fixed-thinner : (f h s : Heap) (root : ℕ → Bool) → IsThinner h s → IsClosed s → ((n : ℕ) → is_known n ≡ true → Has s n) → ((n : ℕ) → root n ≡ true → Has s n) → IsFixed f root → IsPart f h → IsPart f s
fixed-thinner f h s root thin closed known rooted fix p = record { next = p.next ∙ sym thin.next; same = λ n o e. same n o e (s.at n) refl }
  where
    gone : (n : ℕ) (o : Option Object) → cond (is_some o) false true ≡ true → o ≡ None
    gone n None e = refl
    gone n (Some o) e = cc

    inside : (n k : ℕ) (o : Object) → s.at n ≡ None → f.at k ≡ Some o → holds o n ≡ true → (x : Option Object) → s.at k ≡ x → (is_some (f.at k) && cond (is_some (s.at k)) false true) ≡ true
    inside n k o none there held None e = ap₂ (λ a b. is_some a && cond (is_some b) false true) there e
    inside n k o none there held (Some q) e =
        let mine = thin.same k q e in
        let its = p.same k o there in
        let is : q ≡ o = cc in
        let has_n = closed k q n e (subst (λ x. holds x n ≡ true) (sym is) held) in
        absurd (cc)

    by : (n : ℕ) → s.at n ≡ None → (a b : Bool) → is_known n ≡ a → root n ≡ b → (a || (b || any_below f.next (λ k. holds_at f k n))) ≡ true → IsHeldFrom h (λ n. is_some (f.at n) && cond (is_some (s.at n)) false true) n
    by n none true b e g left = let there = known n e in absurd (cc)
    by n none false true e g left = let there = rooted n g in absurd (cc)
    by n none false false e g left =
        let it = any_below-at f.next (λ k. holds_at f k n) left in
        let at_it = holder f it.0 n it.1 in
        record { by = it.0; object = at_it.0; inside = inside n it.0 at_it.0 none at_it.1 at_it.2 (s.at it.0) refl; there = p.same it.0 at_it.0 at_it.1; holds_it = at_it.2 }

    cycle : IsLostCycle h s (λ n. is_some (f.at n) && cond (is_some (s.at n)) false true)
    cycle = record {
      had = λ n e. let it = has f n (both (is_some (f.at n)) (cond (is_some (s.at n)) false true) e).0 in ap is_some (p.same n it.0 it.1);
      lost = λ n e. gone n (s.at n) (both (is_some (f.at n)) (cond (is_some (s.at n)) false true) e).1;
      held = λ n e.
          let two = both (is_some (f.at n)) (cond (is_some (s.at n)) false true) e in
          by n (gone n (s.at n) two.1) (is_known n) (root n) refl refl (fix.fixed n two.0);
    }

    same : (n : ℕ) (o : Object) → f.at n ≡ Some o → (x : Option Object) → s.at n ≡ x → s.at n ≡ Some o
    same n o e None g =
        let no_way : (is_some (f.at n) && cond (is_some (s.at n)) false true) ≡ false = thin.acyclic (λ n. is_some (f.at n) && cond (is_some (s.at n)) false true) cycle n in
        let way : (is_some (f.at n) && cond (is_some (s.at n)) false true) ≡ true = ap₂ (λ a b. is_some a && cond (is_some b) false true) e g in
        absurd (cc)
    same n o e (Some q) g = let mine = thin.same n q g in let its = p.same n o e in let is : q ≡ o = cc in g ∙ ap (λ x. Some x) is

pub thinner-part : (h s : Heap) → IsThinner h s → IsPart s h
thinner-part h s thin = record { next = thin.next; same = thin.same }

pub kept-thinner : (h s : Heap) (root : ℕ → Bool) → IsThinner h s → IsClosed s → ((n : ℕ) → is_known n ≡ true → Has s n) → ((n : ℕ) → root n ≡ true → Has s n) → IsBounded h → kept s root ≡ kept h root
kept-thinner h s root thin closed known rooted b = parts-same (kept s root) (kept h root) first second
  where
    part : IsPart s h
    part = thinner-part h s thin

    bound : IsBounded s
    bound = bounded-part s h part b

    first : IsPart (kept s root) (kept h root)
    first = kept-greatest (kept s root) h root (kept-fixed s root bound) (IsPart-trans (kept s root) s h (kept-part s root) part) b

    second : IsPart (kept h root) (kept s root)
    second = kept-greatest (kept h root) s root (kept-fixed h root b) (fixed-thinner (kept h root) h s root thin closed known rooted (kept-fixed h root b) (kept-part h root)) bound

pub kept-thinning : (h s : Heap) (regs : ℕ → Value) (slots : ℕ → Option ℕ) (root : ℕ → Bool) → IsThinning h s regs slots → IsBounded h → ((n : ℕ) → root n ≡ true → Has s n) → kept s root ≡ kept h root
kept-thinning h s regs slots root t b rooted = kept-thinner h s root t.thinner t.whole.closed t.whole.known rooted b

-- ---- counting what is held

-- a sum is above 0 where a part is
above-sum : (a b : ℕ) → nat_lt 0 (a + b) ≡ (nat_lt 0 a || nat_lt 0 b)
above-sum zero b = grind (arith, common_steps)
above-sum (suc a) b = grind (arith, common_steps)

or-turn : (a b : Bool) → (a || b) ≡ (b || a)
or-turn true true = refl
or-turn true false = refl
or-turn false true = refl
or-turn false false = refl

one-above : (b : Bool) → nat_lt 0 (cond b 1 0) ≡ b
one-above true = refl
one-above false = refl

any-counted : (q : ℕ) (values : List Value) → list_any (is_ref q) values ≡ nat_lt 0 (count_by (is_ref q) values)
any-counted q [] = refl
any-counted q (v ∷ values) =
    let here : ℕ = cond (is_ref q v) 1 0 in
    ap₂ (λ a b. a || b) (sym (one-above (is_ref q v))) (any-counted q values)
    ∙ sym (above-sum here (count_by (is_ref q) values))
    ∙ ap (λ n. nat_lt 0 n) (sym (sum_by-cons (λ x. cond (is_ref q x) 1 0) v values))

-- an object holds the names of which it has words
pub holds-counted : (o : Object) (q : ℕ) → holds o q ≡ nat_lt 0 (holdings o q)
holds-counted o q = sym (above-sum (cond (eqb o.class q) 1 0) (count_by (is_ref q) (fields_of o.body)) ∙ ap₂ (λ a b. a || b) (one-above (eqb o.class q)) (sym (any-counted q (fields_of o.body))))

held-at : (o : Option Object) (q : ℕ) → option_map_or (λ (o : Object). holds o q) o false ≡ nat_lt 0 (option_map_or (λ (o : Object). holdings o q) o 0)
held-at None q = refl
held-at (Some o) q = holds-counted o q

pub any-holdings : (h : Heap) (q n : ℕ) → any_below n (λ k. holds_at h k q) ≡ nat_lt 0 (holdings_below h n q)
any-holdings h q zero = refl
any-holdings h q (suc n) =
    ap₂ (λ a b. a || b) (held-at (h.at n) q) (any-holdings h q n)
    ∙ or-turn (nat_lt 0 (option_map_or (λ (o : Object). holdings o q) (h.at n) 0)) (nat_lt 0 (holdings_below h n q))
    ∙ sym (above-sum (holdings_below h n q) (option_map_or (λ (o : Object). holdings o q) (h.at n) 0))

-- what a sweep leaves: known names, roots, and those that are counted
pub left-by_count : (h : Heap) (root : ℕ → Bool) (q : ℕ) → is_left h root q ≡ (is_known q || (root q || nat_lt 0 (count_of h q)))
unfolding count_of
left-by_count h root q = ap (λ b. is_known q || (root q || b)) (any-holdings h q h.next)

-- without roots
pub left-counted : (h : Heap) (q : ℕ) → is_left h no_roots q ≡ (is_known q || nat_lt 0 (count_of h q))
left-counted h q = left-by_count h no_roots q

-- a heap is its look-ups and its next name
pub heap-same : (f : ℕ → Option Object) (h : Heap) → ((q : ℕ) → f q ≡ h.at q) → (record { at = f; next = h.next }) ≡ h
heap-same f h same = ap (λ (g : ℕ → Option Object). let x : Heap = record { at = g; next = h.next } in x) (fun_ext same)

-- ---- a loop that sweeps

-- one turn
pub kept-turn : (first old new : Heap) (root : ℕ → Bool) → IsBounded old → new ≡ sweep old root → kept old root ≡ kept first root → kept new root ≡ kept first root
kept-turn first old new root b e so_far = ap (λ h. kept h root) e ∙ kept-sweep old root b ∙ so_far

-- the turn that takes nothing away
pub same-turn : (old new : Heap) (root : ℕ → Bool) → IsBounded old → new ≡ sweep old root → object_count new ≡ object_count old → new ≡ old
same-turn old new root b e count = e ∙ sweep-same old root b (ap object_count (sym e) ∙ count)

pub kept-end : (first old new : Heap) (root : ℕ → Bool) → IsBounded old → new ≡ sweep old root → object_count new ≡ object_count old → kept old root ≡ kept first root → new ≡ kept first root
kept-end first old new root b e count so_far =
    let same = same-turn old new root b e count in
    same ∙ sym (kept-same old root (sym e ∙ same)) ∙ so_far

-- a turn that takes something away
pub count-turn : (old new : Heap) (root : ℕ → Bool) → new ≡ sweep old root → (object_count new ≡ object_count old → ⊥) → object_count new < object_count old
count-turn old new root e differ =
    let fewer = count-sweep old root in
    let same = ap object_count e in
    omega arith
