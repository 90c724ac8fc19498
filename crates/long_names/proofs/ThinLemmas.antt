-- Laws of thinning: a thinning of a thinning, and what puts, makings, loads and freeing leave.
use Rattle.std.proofs.Common.{zero, suc, ◌≡◌, ℕ, ◌+◌, ◌<◌, ◌≤◌, nat_lt, Bool, true, false, ◌||◌, ◌&&◌, cond, eqb, List, [], ◌∷◌, Option, Some, None, is_some, refl, sym, ◌∙◌, ap, ap₂, subst, subst₂, arith, inl, inr, ◌⊎◌, replicate}
use Rattle.std.proofs.lemmas.Grind.{common_steps}
use Rattle.std.specs.List.{slice_get, slice_set, list_any}
use borrow.Author.Tests.{ltb-true, ltb-false}
use mathlib.Core.Path.{fun_ext}
use Rattle.long_names.specs.declared.value.Value.{Value}
use Rattle.long_names.specs.declared.value.Value.TheVariants.{Int, Ref}
use Rattle.long_names.specs.declared.object.Body.{Body}
use Rattle.long_names.specs.declared.object.Body.TheVariants.{Pointers, Words, Bytes, Method}
use Rattle.long_names.specs.declared.object.Object.{Object}
use Rattle.long_names.specs.Names.{is_known}
use Rattle.long_names.specs.Objects.{holds, is_ref, fields_of, field_of, with_field, with_words, with_bytes}
use Rattle.long_names.specs.Heap.{Heap, Has, IsBounded, put_object, add_object, swap_objects, without}
use Rattle.std.specs.Option.{option_map_or}
use Rattle.long_names.specs.Thin.{IsLostCycle, IsThinner, IsClosed, IsWhole, IsThinning}

-- the object that a heap has
pub has : (h : Heap) (n : ℕ) → Has h n → (o : Object) × (h.at n ≡ Some o)
has h n there = go (h.at n) refl there
  where
    go : (x : Option Object) → h.at n ≡ x → is_some x ≡ true → (o : Object) × (h.at n ≡ Some o)
    go None e there = cc
    go (Some o) e there = (o, e)

-- ---- tests

pub both : (a b : Bool) → (a && b) ≡ true → (a ≡ true) × (b ≡ true)
both true true e = (refl, refl)
both true false e = cc
both false b e = cc

and_true : (a b : Bool) → a ≡ true → b ≡ true → (a && b) ≡ true
and_true true b e f = f
and_true false b e f = cc

one_of : (a b : Bool) → a ≡ true → (a && b) ≡ false → b ≡ false
one_of true true e f = cc
one_of true false e f = refl
one_of false b e f = cc

pub or_second : (a b : Bool) → b ≡ true → (a || b) ≡ true
or_second true b e = refl
or_second false b e = e

-- ---- thinning

pub IsThinner-refl : (h : Heap) → IsThinner h h
IsThinner-refl h = record { next = refl; same = λ n o e. e; acyclic = λ set c n. none set c n (set n) refl }
  where
    none : (set : ℕ → Bool) → IsLostCycle h h set → (n : ℕ) → (b : Bool) → set n ≡ b → set n ≡ false
    none set c n false e = e
    none set c n true e = let had = c.had n e in let lost = c.lost n e in absurd (cc)

not_has : Heap → ℕ → Bool
not_has s n = cond (is_some (s.at n)) false true

absent : (s : Heap) (n : ℕ) → not_has s n ≡ true → s.at n ≡ None
unfolding not_has
absent s n e = go (s.at n) e
  where
    go : (o : Option Object) → cond (is_some o) false true ≡ true → o ≡ None
    go None e = refl
    go (Some p) e = cc

was_there : (s : Heap) (n : ℕ) → not_has s n ≡ false → Has s n
unfolding not_has
was_there s n e = go (s.at n) e
  where
    go : (o : Option Object) → cond (is_some o) false true ≡ false → is_some o ≡ true
    go None e = cc
    go (Some p) e = refl

-- an object of h that holds what s lacks is none of s, where s is closed
holder_absent : (h s : Heap) (n k : ℕ) (o : Object) → IsThinner h s → IsClosed s → s.at n ≡ None → h.at k ≡ Some o → holds o n ≡ true → not_has s k ≡ true
unfolding not_has
holder_absent h s n k o t closed gone there held = go (s.at k) refl
  where
    go : (x : Option Object) → s.at k ≡ x → cond (is_some x) false true ≡ true
    go None e = refl
    go (Some p) e =
        let there' = t.same k p e in
        let same : p ≡ o = cc in
        let has' : is_some (s.at n) ≡ true = closed k p n e (subst (λ x. holds x n ≡ true) (sym same) held) in
        absurd (cc)

-- a thinning of a thinning is one, where the one between is closed
pub IsThinner-trans : (h s t : Heap) → IsThinner h s → IsThinner s t → IsClosed s → IsThinner h t
IsThinner-trans h s t a b closed = record {
  next = b.next ∙ a.next;
  same = λ n o e. a.same n o (b.same n o e);
  acyclic = λ set c. b.acyclic set (inner set c);
}
  where
    outer : (set : ℕ → Bool) → IsLostCycle h t set → IsLostCycle h s (λ n. set n && not_has s n)
    outer set c = record {
      had = λ n e. c.had n (both (set n) (not_has s n) e).0;
      lost = λ n e. absent s n (both (set n) (not_has s n) e).1;
      held = λ n e.
          let g = c.held n (both (set n) (not_has s n) e).0 in
          let gone = holder_absent h s n g.by g.object a closed (absent s n (both (set n) (not_has s n) e).1) g.there g.holds_it in
          record { by = g.by; object = g.object; inside = and_true (set g.by) (not_has s g.by) g.inside gone; there = g.there; holds_it = g.holds_it };
    }

    still : (set : ℕ → Bool) → IsLostCycle h t set → (n : ℕ) → set n ≡ true → Has s n
    still set c n e = was_there s n (one_of (set n) (not_has s n) e (a.acyclic (λ q. set q && not_has s q) (outer set c) n))

    inner : (set : ℕ → Bool) → IsLostCycle h t set → IsLostCycle s t set
    inner set c = record {
      had = still set c;
      lost = c.lost;
      held = λ n e.
          let g = c.held n e in
          let it = has s g.by (still set c g.by g.inside) in
          let there' = a.same g.by it.0 it.1 in
          let same : g.object ≡ it.0 = cc in
          record { by = g.by; object = g.object; inside = g.inside; there = subst (λ x. s.at g.by ≡ Some x) (sym same) it.1; holds_it = g.holds_it };
    }

-- what a thinning has is the same in the heap
pub same-there : (h s : Heap) (n : ℕ) → IsThinner h s → Has s n → h.at n ≡ s.at n
same-there h s n t there = let it = has s n there in t.same n it.0 it.1 ∙ sym it.1

-- ---- the same object put at the same name of both

abbrev pub put_at : Heap → ℕ → Object → ℕ → Heap
put_at h n o next = record { at = λ q. cond (eqb q n) (Some o) (h.at q); next = next }

put_same : (h s : Heap) (n : ℕ) (o : Object) → IsThinner h s → (q : ℕ) (p : Object) (b : Bool) → cond b (Some o) (s.at q) ≡ Some p → cond b (Some o) (h.at q) ≡ Some p
put_same h s n o t q p true e = e
put_same h s n o t q p false e = t.same q p e

pub IsThinner-put_at : (h s : Heap) (n : ℕ) (o : Object) (next now : ℕ) → now ≡ next → IsThinner h s → IsThinner (put_at h n o next) (put_at s n o now)
IsThinner-put_at h s n o next now f t = record {
  next = f;
  same = λ q p e. put_same h s n o t q p (eqb q n) e;
  acyclic = λ set c. t.acyclic set (inner set c);
}
  where
    other : (set : ℕ → Bool) → IsLostCycle (put_at h n o next) (put_at s n o now) set → (q : ℕ) → set q ≡ true → (b : Bool) → eqb q n ≡ b → eqb q n ≡ false
    other set c q e false f = f
    other set c q e true f =
        let gone : cond (eqb q n) (Some o) (s.at q) ≡ None = c.lost q e in
        let there : cond true (Some o) (s.at q) ≡ None = subst (λ b. cond b (Some o) (s.at q) ≡ None) f gone in
        absurd (cc)

    inner : (set : ℕ → Bool) → IsLostCycle (put_at h n o next) (put_at s n o now) set → IsLostCycle h s set
    inner set c = record {
      had = λ q e. subst (λ b. is_some (cond b (Some o) (h.at q)) ≡ true) (other set c q e (eqb q n) refl) (c.had q e);
      lost = λ q e. subst (λ b. cond b (Some o) (s.at q) ≡ None) (other set c q e (eqb q n) refl) (c.lost q e);
      held = λ q e.
          let g = c.held q e in
          record {
            by = g.by;
            object = g.object;
            inside = g.inside;
            there = subst (λ b. cond b (Some o) (h.at g.by) ≡ Some g.object) (other set c g.by g.inside (eqb g.by n) refl) g.there;
            holds_it = g.holds_it;
          };
    }

pub IsThinner-put_object : (h s : Heap) (n : ℕ) (o : Object) → IsThinner h s → IsThinner (put_object h n o) (put_object s n o)
IsThinner-put_object h s n o t = IsThinner-put_at h s n o h.next s.next t.next t

pub IsThinner-add_object : (h s : Heap) (o : Object) → IsThinner h s → IsThinner (add_object h o) (add_object s o)
IsThinner-add_object h s o t =
    subst (λ (k : ℕ). IsThinner (add_object h o) (record { at = λ q. cond (eqb q k) (Some o) (s.at q); next = s.next + 2 })) (sym t.next)
    (IsThinner-put_at h s h.next o (h.next + 2) (s.next + 2) (ap (λ (k : ℕ). k + 2) t.next) t)

-- the objects of two names in each other's place, where a heap has these
abbrev pub swap_at : Heap → ℕ → ℕ → Option Object → Option Object → Heap
swap_at h n k x y = option_map_or (λ (o : Object). option_map_or (λ (p : Object). put_object (put_object h n p) k o) y h) x h

-- what a swap has under each name, where both names have objects
pub swapped_at : (h : Heap) (n k q : ℕ) (o p : Object) → h.at n ≡ Some o → h.at k ≡ Some p → (swap_objects h n k).at q ≡ cond (eqb q k) (Some o) (cond (eqb q n) (Some p) (h.at q))
swapped_at h n k q o p e f = ap₂ (λ x y. (swap_at h n k x y).at q) e f

-- the object of the other name,
pub swapped_first : (h : Heap) (n k : ℕ) (o p : Object) → h.at n ≡ Some o → h.at k ≡ Some p → (swap_objects h n k).at n ≡ Some p
swapped_first h n k o p e f = swapped_at h n k n o p e f ∙ go (eqb n k) refl
  where
    here : eqb n n ≡ true
    here = grind (arith, common_steps)

    go : (b : Bool) → eqb n k ≡ b → cond (eqb n k) (Some o) (cond (eqb n n) (Some p) (h.at n)) ≡ Some p
    go true is = let same : n ≡ k = grind (arith, common_steps, is) in ap (λ b. cond b (Some o) (cond (eqb n n) (Some p) (h.at n))) is ∙ sym e ∙ ap h.at same ∙ f
    go false is = ap₂ (λ b c. cond b (Some o) (cond c (Some p) (h.at n))) is here

pub swapped_second : (h : Heap) (n k : ℕ) (o p : Object) → h.at n ≡ Some o → h.at k ≡ Some p → (swap_objects h n k).at k ≡ Some o
swapped_second h n k o p e f = swapped_at h n k k o p e f ∙ (let here : eqb k k ≡ true = grind (arith, common_steps) in ap (λ b. cond b (Some o) (cond (eqb k n) (Some p) (h.at k))) here)

-- and of any third name its own
pub swapped_apart : (h : Heap) (n k q : ℕ) → (q ≡ n → ⊥) → (q ≡ k → ⊥) → (swap_objects h n k).at q ≡ h.at q
swapped_apart h n k q one two = go (h.at n) (h.at k)
  where
    apart : (m : ℕ) → (q ≡ m → ⊥) → (b : Bool) → eqb q m ≡ b → eqb q m ≡ false
    apart m other true e = let same : q ≡ m = grind (arith, common_steps, e) in absurd (other same)
    apart m other false e = e

    go : (x y : Option Object) → (swap_at h n k x y).at q ≡ h.at q
    go None y = refl
    go (Some o) None = refl
    go (Some o) (Some p) = ap₂ (λ b c. cond b (Some o) (cond c (Some p) (h.at q))) (apart k two (eqb q k) refl) (apart n one (eqb q n) refl)

-- a name's object put in its own place
pub swapped_same : (h : Heap) (n : ℕ) → swap_objects h n n ≡ h
swapped_same h n = go (h.at n) refl
  where
    at : (o : Object) → h.at n ≡ Some o → (q : ℕ) (b : Bool) → eqb q n ≡ b → cond b (Some o) (cond b (Some o) (h.at q)) ≡ h.at q
    at o e q true is = let same : q ≡ n = grind (arith, common_steps, is) in sym (ap h.at same ∙ e)
    at o e q false is = refl

    go : (x : Option Object) → h.at n ≡ x → swap_at h n n x x ≡ h
    go None e = refl
    go (Some o) e = ap (λ (f : ℕ → Option Object). let x : Heap = record { at = f; next = h.next } in x) (fun_ext (λ q. at o e q (eqb q n) refl))

pub IsThinner-swap_objects : (h s : Heap) (n k : ℕ) → IsThinner h s → h.at n ≡ s.at n → h.at k ≡ s.at k → IsThinner (swap_objects h n k) (swap_objects s n k)
IsThinner-swap_objects h s n k t e f = subst₂ (λ x y. IsThinner (swap_at h n k (h.at n) (h.at k)) (swap_at s n k x y)) e f (go (h.at n) (h.at k))
  where
    go : (x y : Option Object) → IsThinner (swap_at h n k x y) (swap_at s n k x y)
    go None y = t
    go (Some o) None = t
    go (Some o) (Some p) = IsThinner-put_object (put_object h n p) (put_object s n p) k o (IsThinner-put_object h s n p t)

-- ---- bounded and whole heaps

pub below : (h : Heap) (k : ℕ) (o : Object) → IsBounded h → h.at k ≡ Some o → k < h.next
below h k o b there = go (nat_lt k h.next) refl
  where
    go : (x : Bool) → nat_lt k h.next ≡ x → k < h.next
    go true e = ltb-true k h.next e
    go false e = let none = b.bounded k (ltb-false k h.next e) in absurd (cc)

-- what a bounded heap has is below its next name
pub has_below : (h : Heap) (k : ℕ) → IsBounded h → Has h k → k < h.next
has_below h k b there = let it = has h k there in below h k it.0 b it.1

pub IsWhole-bounded : (h : Heap) (regs : ℕ → Value) (slots : ℕ → Option ℕ) → IsWhole h regs slots → IsBounded h
IsWhole-bounded h regs slots w = record { bounded = λ n above. go n above (h.at n) refl }
  where
    go : (n : ℕ) → h.next ≤ n → (x : Option Object) → h.at n ≡ x → h.at n ≡ None
    go n above None e = e
    go n above (Some o) e = let low = w.below n (ap is_some e) in absurd (omega arith)

pub IsBounded-put_at : (h : Heap) (n : ℕ) (o : Object) (next : ℕ) → IsBounded h → h.next ≤ next → n < next → IsBounded (put_at h n o next)
IsBounded-put_at h n o next b up low = record { bounded = λ q above. go q above (eqb q n) refl }
  where
    go : (q : ℕ) → next ≤ q → (x : Bool) → eqb q n ≡ x → cond (eqb q n) (Some o) (h.at q) ≡ None
    go q above true e = let same : q ≡ n = grind (arith, common_steps, e) in absurd (omega arith)
    go q above false e = ap (λ b. cond b (Some o) (h.at q)) e ∙ b.bounded q (omega arith)

pub IsBounded-put_object : (h : Heap) (n : ℕ) (o : Object) → IsBounded h → Has h n → IsBounded (put_object h n o)
IsBounded-put_object h n o b there = let low = has_below h n b there in IsBounded-put_at h n o h.next b (omega arith) low

pub IsBounded-add_object : (h : Heap) (o : Object) → IsBounded h → IsBounded (add_object h o)
IsBounded-add_object h o b = IsBounded-put_at h h.next o (h.next + 2) b (omega arith) (omega arith)

pub has_put : (s : Heap) (n : ℕ) (o : Object) (next k : ℕ) → Has s k → Has (put_at s n o next) k
has_put s n o next k h = go (eqb k n) refl
  where
    go : (b : Bool) → eqb k n ≡ b → is_some (cond (eqb k n) (Some o) (s.at k)) ≡ true
    go true e = ap (λ b. is_some (cond b (Some o) (s.at k))) e
    go false e = ap (λ b. is_some (cond b (Some o) (s.at k))) e ∙ h

pub IsBounded-swap_objects : (h : Heap) (n k : ℕ) → IsBounded h → IsBounded (swap_objects h n k)
IsBounded-swap_objects h n k b = go (h.at n) (h.at k) refl refl
  where
    go : (x y : Option Object) → h.at n ≡ x → h.at k ≡ y → IsBounded (swap_at h n k x y)
    go None y e f = b
    go (Some o) None e f = b
    go (Some o) (Some p) e f = IsBounded-put_object (put_object h n p) k o (IsBounded-put_object h n p b (ap is_some e)) (has_put h n p h.next k (ap is_some f))

-- a making has its object
pub has_here : (s : Heap) (o : Object) → Has (add_object s o) s.next
has_here s o = let e : eqb s.next s.next ≡ true = grind (arith, common_steps) in ap (λ b. is_some (cond b (Some o) (s.at s.next))) e

IsClosed-put_at : (s : Heap) (n : ℕ) (o : Object) (next : ℕ) → IsClosed s → ((k : ℕ) → holds o k ≡ true → Has s k) → IsClosed (put_at s n o next)
IsClosed-put_at s n o next closed own q p k e h = go (eqb q n) refl
  where
    go : (b : Bool) → eqb q n ≡ b → Has (put_at s n o next) k
    go true f =
        let e' : cond true (Some o) (s.at q) ≡ Some p = subst (λ b. cond b (Some o) (s.at q) ≡ Some p) f e in
        let same : o ≡ p = cc in
        has_put s n o next k (own k (subst (λ x. holds x k ≡ true) (sym same) h))
    go false f =
        let e' : cond false (Some o) (s.at q) ≡ Some p = subst (λ b. cond b (Some o) (s.at q) ≡ Some p) f e in
        has_put s n o next k (closed q p k e' h)

below_put : (s : Heap) (n : ℕ) (o : Object) (next : ℕ) → ((q : ℕ) → Has s q → q < s.next) → s.next ≤ next → n < next → (q : ℕ) → Has (put_at s n o next) q → q < next
below_put s n o next low up here q there = go (eqb q n) refl there
  where
    go : (b : Bool) → eqb q n ≡ b → is_some (cond b (Some o) (s.at q)) ≡ true → q < next
    go true e h = let same : q ≡ n = grind (arith, common_steps, e) in omega arith
    go false e h = let first = low q h in omega arith

-- with another object under a name, or a new one, which holds only names of objects
pub IsWhole-put_at : (s : Heap) (regs : ℕ → Value) (slots : ℕ → Option ℕ) (n : ℕ) (o : Object) (next : ℕ) → IsWhole s regs slots → s.next ≤ next → n < next → ((k : ℕ) → holds o k ≡ true → Has s k) → IsWhole (put_at s n o next) regs slots
IsWhole-put_at s regs slots n o next w up low own = record {
  known = λ k e. has_put s n o next k (w.known k e);
  below = below_put s n o next w.below up low;
  closed = IsClosed-put_at s n o next w.closed own;
  rooted = λ r k e. has_put s n o next k (w.rooted r k e);
  pinned = λ i k e. has_put s n o next k (w.pinned i k e);
}

pub IsWhole-put_object : (s : Heap) (regs : ℕ → Value) (slots : ℕ → Option ℕ) (n : ℕ) (o : Object) → IsWhole s regs slots → Has s n → ((k : ℕ) → holds o k ≡ true → Has s k) → IsWhole (put_object s n o) regs slots
IsWhole-put_object s regs slots n o w there own = let low = w.below n there in IsWhole-put_at s regs slots n o s.next w (omega arith) low own

pub IsWhole-add_object : (s : Heap) (regs : ℕ → Value) (slots : ℕ → Option ℕ) (o : Object) → IsWhole s regs slots → ((k : ℕ) → holds o k ≡ true → Has s k) → IsWhole (add_object s o) regs slots
IsWhole-add_object s regs slots o w own = IsWhole-put_at s regs slots s.next o (s.next + 2) w (omega arith) (omega arith) own

-- two objects in each other's place hold what they held
pub IsWhole-swap_objects : (s : Heap) (regs : ℕ → Value) (slots : ℕ → Option ℕ) (n k : ℕ) → IsWhole s regs slots → IsWhole (swap_objects s n k) regs slots
IsWhole-swap_objects s regs slots n k w = go (s.at n) (s.at k) refl refl
  where
    go : (x y : Option Object) → s.at n ≡ x → s.at k ≡ y → IsWhole (swap_at s n k x y) regs slots
    go None y e f = w
    go (Some o) None e f = w
    go (Some o) (Some p) e f =
        let first = IsWhole-put_object s regs slots n p w (ap is_some e) (λ q held. w.closed k p q f held) in
        IsWhole-put_object (put_object s n p) regs slots k o first (has_put s n p s.next k (ap is_some f)) (λ q held. has_put s n p s.next q (w.closed n o q e held))

-- other registers, which hold only names of objects
pub IsWhole-regs : (s : Heap) (regs now : ℕ → Value) (slots : ℕ → Option ℕ) → IsWhole s regs slots → ((r n : ℕ) → now r ≡ Ref n → Has s n) → IsWhole s now slots
IsWhole-regs s regs now slots w named = record { known = w.known; below = w.below; closed = w.closed; rooted = named; pinned = w.pinned }

-- a register may take what is there
pub IsWhole-set : (s : Heap) (regs now : ℕ → Value) (slots : ℕ → Option ℕ) (to : ℕ) (v : Value) → IsWhole s regs slots → now ≡ (λ r. cond (eqb r to) v (regs r)) → ((k : ℕ) → v ≡ Ref k → Has s k) → IsWhole s now slots
IsWhole-set s regs now slots to v w e named = IsWhole-regs s regs now slots w (λ r n f. go r n (eqb r to) (sym (ap (λ g. g r) e) ∙ f))
  where
    go : (r n : ℕ) (b : Bool) → cond b v (regs r) ≡ Ref n → Has s n
    go r n true f = named n f
    go r n false f = w.rooted r n f

-- other slots
pub IsWhole-slots : (s : Heap) (regs : ℕ → Value) (slots now : ℕ → Option ℕ) → IsWhole s regs slots → ((i n : ℕ) → now i ≡ Some n → Has s n) → IsWhole s regs now
IsWhole-slots s regs slots now w named = record { known = w.known; below = w.below; closed = w.closed; rooted = w.rooted; pinned = named }

-- a slot may take what is there, or nothing
pub IsWhole-pin : (s : Heap) (regs : ℕ → Value) (slots now : ℕ → Option ℕ) (slot : ℕ) (x : Option ℕ) → IsWhole s regs slots → now ≡ (λ i. cond (eqb i slot) x (slots i)) → ((k : ℕ) → x ≡ Some k → Has s k) → IsWhole s regs now
IsWhole-pin s regs slots now slot x w e named = IsWhole-slots s regs slots now w (λ i n f. go i n (eqb i slot) (sym (ap (λ g. g i) e) ∙ f))
  where
    go : (i n : ℕ) (b : Bool) → cond b x (slots i) ≡ Some n → Has s n
    go i n true f = named n f
    go i n false f = w.pinned i n f

-- ---- what objects hold

pub or_cases : (a b : Bool) → (a || b) ≡ true → (a ≡ true) ⊎ (b ≡ true)
or_cases true b e = inl refl
or_cases false b e = inr e

pub or_first : (a b : Bool) → a ≡ true → (a || b) ≡ true
or_first true b e = refl
or_first false b e = cc

-- an object holds its class
pub holds-class : (o : Object) → holds o o.class ≡ true
holds-class o = let same : eqb o.class o.class ≡ true = grind (arith, common_steps) in or_first (eqb o.class o.class) (list_any (is_ref o.class) (fields_of o.body)) same

is_ref-same : (k : ℕ) → is_ref k (Ref k) ≡ true
is_ref-same k = grind (arith, common_steps)

is_ref-names : (k : ℕ) (v : Value) → is_ref k v ≡ true → v ≡ Ref k
is_ref-names k (Int z) e = cc
is_ref-names k (Ref n) e = grind (arith, common_steps)

list_any-slice_get : (p : Value → Bool) (vs : List Value) (i : ℕ) (v : Value) → slice_get vs i ≡ Some v → p v ≡ true → list_any p vs ≡ true
list_any-slice_get p [] i v e h = cc
list_any-slice_get p (w ∷ vs) zero v e h =
    let same : w ≡ v = cc in
    let first : p w ≡ true = ap p same ∙ h in
    ap (λ b. b || list_any p vs) first
list_any-slice_get p (w ∷ vs) (suc i) v e h = or_second (p w) (list_any p vs) (list_any-slice_get p vs i v e h)

-- and what is in its fields
pub holds-field : (o : Object) (i k : ℕ) → field_of o.body i ≡ Some (Ref k) → holds o k ≡ true
holds-field o i k e = or_second (eqb o.class k) (list_any (is_ref k) (fields_of o.body)) (list_any-slice_get (is_ref k) (fields_of o.body) i (Ref k) e (is_ref-same k))

-- and nothing else
pub holds-cases : (o : Object) (k : ℕ) → holds o k ≡ true → (o.class ≡ k) ⊎ (list_any (is_ref k) (fields_of o.body) ≡ true)
holds-cases o k e = elim (or_cases (eqb o.class k) (list_any (is_ref k) (fields_of o.body)) e) [ inl c ↦ inl (named o.class k c) | inr f ↦ inr f ]
  where
    named : (a b : ℕ) → eqb a b ≡ true → a ≡ b
    named a b c = grind (arith, common_steps)

-- another body with the same fields holds the same names
pub holds-same : (o : Object) (b : Body) (k : ℕ) → fields_of b ≡ fields_of o.body → holds (record { class = o.class; body = b }) k ≡ holds o k
holds-same o b k e = ap (λ values. eqb o.class k || list_any (is_ref k) values) e

pub fields-with_words : (b : Body) (at : ℕ) (run : List ℕ) → fields_of (with_words b at run) ≡ fields_of b
fields-with_words (Pointers values) at run = refl
fields-with_words (Words words) at run = refl
fields-with_words (Bytes bytes) at run = refl
fields-with_words (Method header literals code) at run = refl

pub fields-with_bytes : (b : Body) (at : ℕ) (run : List ℕ) → fields_of (with_bytes b at run) ≡ fields_of b
fields-with_bytes (Pointers values) at run = refl
fields-with_bytes (Words words) at run = refl
fields-with_bytes (Bytes bytes) at run = refl
fields-with_bytes (Method header literals code) at run = refl

pub fields-with_field : (b : Body) (i : ℕ) (v : Value) → fields_of (with_field b i v) ≡ slice_set (fields_of b) i v
fields-with_field (Pointers values) i v = refl
fields-with_field (Words words) i v = refl
fields-with_field (Bytes bytes) i v = refl
fields-with_field (Method header literals code) i v = refl

list_any-slice_set : (p : Value → Bool) (vs : List Value) (i : ℕ) (v : Value) → list_any p (slice_set vs i v) ≡ true → (list_any p vs ≡ true) ⊎ (p v ≡ true)
list_any-slice_set p [] i v e = inl e
list_any-slice_set p (w ∷ vs) zero v e = go (p v) (p w) (list_any p vs) e
  where
    go : (a b c : Bool) → (a || c) ≡ true → ((b || c) ≡ true) ⊎ (a ≡ true)
    go true b c e = inr refl
    go false true c e = inl refl
    go false false c e = inl e
list_any-slice_set p (w ∷ vs) (suc i) v e = go (p w) e (list_any-slice_set p vs i v)
  where
    go : (a : Bool) → (a || list_any p (slice_set vs i v)) ≡ true → (list_any p (slice_set vs i v) ≡ true → (list_any p vs ≡ true) ⊎ (p v ≡ true)) → ((a || list_any p vs) ≡ true) ⊎ (p v ≡ true)
    go true e next = inl refl
    go false e next = next e

-- with another field it holds no more than before and what the field is
pub holds-with_field : (o : Object) (i : ℕ) (v : Value) (k : ℕ) → holds (record { class = o.class; body = with_field o.body i v }) k ≡ true → (holds o k ≡ true) ⊎ (v ≡ Ref k)
holds-with_field o i v k e = elim (or_cases (eqb o.class k) (list_any (is_ref k) (fields_of (with_field o.body i v))) e) [ inl c ↦ inl (or_first (eqb o.class k) (list_any (is_ref k) (fields_of o.body)) c) | inr f ↦ inside f ]
  where
    inside : list_any (is_ref k) (fields_of (with_field o.body i v)) ≡ true → (holds o k ≡ true) ⊎ (v ≡ Ref k)
    inside f = elim (list_any-slice_set (is_ref k) (fields_of o.body) i v (sym (ap (list_any (is_ref k)) (fields-with_field o.body i v)) ∙ f)) [ inl old ↦ inl (or_second (eqb o.class k) (list_any (is_ref k) (fields_of o.body)) old) | inr new ↦ inr (is_ref-names k v new) ]

list_any-replicate : (p : Value → Bool) (n : ℕ) (v : Value) → list_any p (replicate n v) ≡ true → p v ≡ true
list_any-replicate p zero v e = cc
list_any-replicate p (suc n) v e = elim (or_cases (p v) (list_any p (replicate n v)) e) [ inl here ↦ here | inr rest ↦ list_any-replicate p n v rest ]

-- a new object holds its class and nil at most
pub holds-filled : (o : Object) (n k : ℕ) (v : Value) → fields_of o.body ≡ replicate n v → holds o k ≡ true → (o.class ≡ k) ⊎ (v ≡ Ref k)
holds-filled o n k v e held = elim (holds-cases o k held) [ inl c ↦ inl c | inr f ↦ inr (is_ref-names k v (list_any-replicate (is_ref k) n v (sym (ap (list_any (is_ref k)) e) ∙ f))) ]

-- a body with no fields holds nothing
pub holds-plain : (o : Object) (k : ℕ) → fields_of o.body ≡ [] → holds o k ≡ true → o.class ≡ k
holds-plain o k e held = elim (holds-cases o k held) [ inl c ↦ c | inr f ↦ none (sym (ap (list_any (is_ref k)) e) ∙ f) ]
  where
    none : ◌≡◌ {A = Bool} false true → o.class ≡ k
    none f = cc

-- a store of what is there leaves a whole heap
pub IsWhole-with_field : (s : Heap) (regs : ℕ → Value) (slots : ℕ → Option ℕ) (n : ℕ) (o : Object) (i : ℕ) (v : Value) → IsWhole s regs slots → s.at n ≡ Some o → ((k : ℕ) → v ≡ Ref k → Has s k) → IsWhole (put_object s n (record { class = o.class; body = with_field o.body i v })) regs slots
IsWhole-with_field s regs slots n o i v w there named = IsWhole-put_object s regs slots n (record { class = o.class; body = with_field o.body i v }) w (ap is_some there) (λ k held. elim (holds-with_field o i v k held) [ inl old ↦ w.closed n o k there old | inr new ↦ named k new ])

-- and so does another body with the same fields
pub IsWhole-same_fields : (s : Heap) (regs : ℕ → Value) (slots : ℕ → Option ℕ) (n : ℕ) (o : Object) (b : Body) → IsWhole s regs slots → s.at n ≡ Some o → fields_of b ≡ fields_of o.body → IsWhole (put_object s n (record { class = o.class; body = b })) regs slots
IsWhole-same_fields s regs slots n o b w there e = IsWhole-put_object s regs slots n (record { class = o.class; body = b }) w (ap is_some there) (λ k held. w.closed n o k there (sym (holds-same o b k e) ∙ held))

-- ---- whole thinnings

-- a whole heap is a thinning of itself
pub IsThinning-refl : (h : Heap) (regs : ℕ → Value) (slots : ℕ → Option ℕ) → IsWhole h regs slots → IsThinning h h regs slots
IsThinning-refl h regs slots w = record { thinner = IsThinner-refl h; whole = w }

-- a thinning of a thinning is one, whatever the registers and slots of the one between
pub IsThinning-trans : (h s t : Heap) (regs now : ℕ → Value) (slots pins : ℕ → Option ℕ) → IsThinning h s regs slots → IsThinning s t now pins → IsThinning h t now pins
IsThinning-trans h s t regs now slots pins a b = record { thinner = IsThinner-trans h s t a.thinner b.thinner a.whole.closed; whole = b.whole }

-- ---- freeing

-- what no object holds may be freed
pub IsThinner-without : (h : Heap) (n : ℕ) → ((k : ℕ) (o : Object) → h.at k ≡ Some o → holds o n ≡ true → ⊥) → IsThinner h (without h n)
IsThinner-without h n free = record {
  next = refl;
  same = λ q o e. same q o (eqb q n) e;
  acyclic = λ set c q. none set c q (set q) refl;
}
  where
    same : (q : ℕ) (o : Object) (b : Bool) → cond b None (h.at q) ≡ Some o → h.at q ≡ Some o
    same q o true e = let f : ◌≡◌ {A = Option Object} None (Some o) = e in cc
    same q o false e = e

    only : (q : ℕ) (b : Bool) → eqb q n ≡ b → is_some (h.at q) ≡ true → cond (eqb q n) None (h.at q) ≡ None → q ≡ n
    only q true f there e = grind (arith, common_steps, f)
    only q false f there e = let gone : h.at q ≡ None = subst (λ b. cond b None (h.at q) ≡ None) f e in absurd (cc)

    none : (set : ℕ → Bool) → IsLostCycle h (without h n) set → (q : ℕ) (b : Bool) → set q ≡ b → set q ≡ false
    none set c q false e = e
    none set c q true e =
        let g = c.held q e in
        let is : q ≡ n = only q (eqb q n) refl (c.had q e) (c.lost q e) in
        absurd (free g.by g.object g.there (subst (λ k. holds g.object k ≡ true) is g.holds_it))

has_other : (h : Heap) (n k : ℕ) → (k ≡ n → ⊥) → Has h k → Has (without h n) k
has_other h n k other there = go (eqb k n) refl
  where
    go : (b : Bool) → eqb k n ≡ b → is_some (cond (eqb k n) None (h.at k)) ≡ true
    go true e = let same : k ≡ n = grind (arith, common_steps, e) in absurd (other same)
    go false e = ap (λ b. is_some (cond b None (h.at k))) e ∙ there

-- and what is neither known nor in a register or a slot leaves a whole heap
pub IsWhole-without : (h : Heap) (regs : ℕ → Value) (slots : ℕ → Option ℕ) (n : ℕ) → IsWhole h regs slots → is_known n ≡ false → ((k : ℕ) (o : Object) → h.at k ≡ Some o → holds o n ≡ true → ⊥) → ((r : ℕ) → regs r ≡ Ref n → ⊥) → ((i : ℕ) → slots i ≡ Some n → ⊥) → IsWhole (without h n) regs slots
IsWhole-without h regs slots n w unknown free out unpinned = record {
  known = λ k e. has_other h n k (λ is. let yes : is_known n ≡ true = subst (λ x. is_known x ≡ true) is e in no_both (is_known n) yes unknown) (w.known k e);
  below = λ k there. w.below k (was k (eqb k n) there);
  closed = λ q o k e held. has_other h n k (λ is. free q o (before q o (eqb q n) e) (subst (λ x. holds o x ≡ true) is held)) (w.closed q o k (before q o (eqb q n) e) held);
  rooted = λ r k e. has_other h n k (λ is. out r (subst (λ x. regs r ≡ Ref x) is e)) (w.rooted r k e);
  pinned = λ i k e. has_other h n k (λ is. unpinned i (subst (λ x. slots i ≡ Some x) is e)) (w.pinned i k e);
}
  where
    no_both : (b : Bool) → b ≡ true → b ≡ false → ⊥
    no_both true e f = cc
    no_both false e f = cc

    was : (k : ℕ) (b : Bool) → is_some (cond b None (h.at k)) ≡ true → is_some (h.at k) ≡ true
    was k true e = let f : ◌≡◌ {A = Bool} false true = e in cc
    was k false e = e

    before : (q : ℕ) (o : Object) (b : Bool) → cond b None (h.at q) ≡ Some o → h.at q ≡ Some o
    before q o true e = let f : ◌≡◌ {A = Option Object} None (Some o) = e in cc
    before q o false e = e
