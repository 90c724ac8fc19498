-- Laws of counts: how many words of a heap are a name, and how many objects it has; what a put, a store, a making and a freeing change.
use Rattle.std.proofs.Common.{zero, suc, ◌≡◌, ℕ, ◌+◌, ◌*◌, ◌<◌, ◌≤◌, nat_lt, Bool, true, false, ◌||◌, cond, eqb, List, length, Option, Some, None, is_some, refl, sym, ◌∙◌, ap, ap₂, subst, arith, inl, inr}
use Rattle.std.proofs.lemmas.Grind.{common_steps}
use Rattle.std.proofs.lemmas.List.Sums.{sum_by-set}
use Rattle.std.proofs.lemmas.Option.{get_or_from_slice_get, slice_get_cases}
use Rattle.std.specs.List.{slice_get, slice_set, count_by}
use Rattle.std.specs.Option.{option_map_or}
use Rattle.long_names.specs.declared.value.Value.{Value}
use Rattle.long_names.specs.declared.value.Value.TheVariants.{Ref}
use Rattle.long_names.specs.declared.object.Body.{Body}
use Rattle.long_names.specs.declared.object.Object.{Object}
use Rattle.long_names.specs.Names.{is_known}
use Rattle.long_names.specs.Objects.{holds, holdings, is_ref, fields_of, field_of, with_field}
use Rattle.long_names.specs.Heap.{Heap, Has, IsBounded, put_object, add_object, without, holdings_below, count_of, objects_below, object_count}
use Rattle.long_names.specs.Kept.{kept}
use Rattle.long_names.specs.Thin.{IsThinner, IsThinning, IsWhole}
use Rattle.long_names.proofs.ThinLemmas.{fields-with_field, has_below, IsThinner-without, IsWhole-without}
use Rattle.long_names.proofs.KeptLaws.{fixed-same, kept-same, kept-thinning, left-by_count, holds-counted}

-- ---- sums below a number

-- the sum of what a function gives below n
abbrev pub sum_below : ℕ → (ℕ → ℕ) → ℕ
sum_below zero f = 0
sum_below (suc n) f = sum_below n f + f n

pub sum-same : (m : ℕ) (f g : ℕ → ℕ) → ((k : ℕ) → k < m → g k ≡ f k) → sum_below m g ≡ sum_below m f
sum-same zero f g e = refl
sum-same (suc m) f g e = ap₂ (λ a b. a + b) (sum-same m f g (λ k low. e k (omega arith))) (e m (omega arith))

-- two functions that differ at one place
pub sum-change : (m n : ℕ) (f g : ℕ → ℕ) → n < m → ((k : ℕ) → (k ≡ n → ⊥) → g k ≡ f k) → sum_below m g + f n ≡ sum_below m f + g n
sum-change zero n f g low e = absurd (omega arith)
sum-change (suc m) n f g low e = go (eqb n m) refl (sum-change m n f g)
  where
    go : (b : Bool) → eqb n m ≡ b → (n < m → ((k : ℕ) → (k ≡ n → ⊥) → g k ≡ f k) → sum_below m g + f n ≡ sum_below m f + g n) → (sum_below m g + g m) + f n ≡ (sum_below m f + f m) + g n
    go true x next =
        let is : n ≡ m = grind (arith, common_steps, x) in
        let rest = sum-same m f g (λ k lower. e k (λ at. omega arith)) in
        let a = ap f is in
        let b = ap g is in
        omega arith
    go false x next =
        let other : n ≡ m → ⊥ = grind (arith, common_steps, x) in
        let rest = next (omega arith) e in
        let here = e m (λ at. other (sym at)) in
        omega arith

pub sum-zero : (m : ℕ) (f : ℕ → ℕ) → sum_below m f ≡ 0 → (k : ℕ) → k < m → f k ≡ 0
sum-zero zero f e k low = absurd (omega arith)
sum-zero (suc m) f e k low = go (eqb k m) refl (sum-zero m f (omega arith) k)
  where
    go : (b : Bool) → eqb k m ≡ b → (k < m → f k ≡ 0) → f k ≡ 0
    go true x next = let is : k ≡ m = grind (arith, common_steps, x) in let here : f m ≡ 0 = omega arith in ap f is ∙ here
    go false x next = next (grind (arith, common_steps, x))

pub sum-limit : (m : ℕ) (f : ℕ → ℕ) (limit : ℕ) → ((k : ℕ) → k < m → f k ≤ limit) → sum_below m f ≤ m * limit
sum-limit zero f limit each = omega arith
sum-limit (suc m) f limit each =
    let rest = sum-limit m f limit (λ k low. each k (omega arith)) in
    let here = each m (omega arith) in
    grind arith

-- ---- counts as sums

-- how many words of an object, where there is one, are this name
abbrev pub words_in : ℕ → Option Object → ℕ
words_in q o = option_map_or (λ (o : Object). holdings o q) o 0

holdings-sum : (h : Heap) (m q : ℕ) → holdings_below h m q ≡ sum_below m (λ k. words_in q (h.at k))
holdings-sum h zero q = refl
holdings-sum h (suc m) q = ap (λ n. n + words_in q (h.at m)) (holdings-sum h m q)

pub count-sum : (h : Heap) (q : ℕ) → count_of h q ≡ sum_below h.next (λ k. words_in q (h.at k))
unfolding count_of
count-sum h q = holdings-sum h h.next q

abbrev pub one_if_there : Option Object → ℕ
one_if_there o = cond (is_some o) 1 0

objects-sum : (h : Heap) (m : ℕ) → objects_below h m ≡ sum_below m (λ k. one_if_there (h.at k))
objects-sum h zero = refl
objects-sum h (suc m) = ap (λ n. n + one_if_there (h.at m)) (objects-sum h m)

pub object_count-sum : (h : Heap) → object_count h ≡ sum_below h.next (λ k. one_if_there (h.at k))
unfolding object_count
object_count-sum h = objects-sum h h.next

-- heaps that differ at one name
pub count-change : (h g : Heap) (n q : ℕ) → g.next ≡ h.next → n < h.next → ((k : ℕ) → (k ≡ n → ⊥) → g.at k ≡ h.at k) → count_of g q + words_in q (h.at n) ≡ count_of h q + words_in q (g.at n)
count-change h g n q next low same =
    let a = count-sum h q in
    let b = count-sum g q in
    let c = ap (λ m. sum_below m (λ k. words_in q (g.at k))) next in
    let d = sum-change h.next n (λ k. words_in q (h.at k)) (λ k. words_in q (g.at k)) low (λ k other. ap (words_in q) (same k other)) in
    omega arith

pub objects-change : (h g : Heap) (n : ℕ) → g.next ≡ h.next → n < h.next → ((k : ℕ) → (k ≡ n → ⊥) → g.at k ≡ h.at k) → object_count g + one_if_there (h.at n) ≡ object_count h + one_if_there (g.at n)
objects-change h g n next low same =
    let a = object_count-sum h in
    let b = object_count-sum g in
    let c = ap (λ m. sum_below m (λ k. one_if_there (g.at k))) next in
    let d = sum-change h.next n (λ k. one_if_there (h.at k)) (λ k. one_if_there (g.at k)) low (λ k other. ap one_if_there (same k other)) in
    omega arith

-- ---- tests of names

pub eqb-here : (n : ℕ) → eqb n n ≡ true
eqb-here n = grind (arith, common_steps)

pub eqb-other : (k n : ℕ) → (k ≡ n → ⊥) → eqb k n ≡ false
eqb-other k n other = grind (arith, common_steps)

-- ---- an object put

put-here : (h : Heap) (n : ℕ) (o : Object) → (put_object h n o).at n ≡ Some o
put-here h n o = ap (λ b. cond b (Some o) (h.at n)) (eqb-here n)

put-other : (h : Heap) (n : ℕ) (o : Object) (k : ℕ) → (k ≡ n → ⊥) → (put_object h n o).at k ≡ h.at k
put-other h n o k other = ap (λ b. cond b (Some o) (h.at k)) (eqb-other k n other)

pub count-put_object : (h : Heap) (n : ℕ) (o : Object) (q : ℕ) → n < h.next → count_of (put_object h n o) q + words_in q (h.at n) ≡ count_of h q + holdings o q
count-put_object h n o q low = count-change h (put_object h n o) n q refl low (put-other h n o) ∙ ap (λ x. count_of h q + words_in q x) (put-here h n o)

pub objects-put_object : (h : Heap) (n : ℕ) (o : Object) → n < h.next → object_count (put_object h n o) + one_if_there (h.at n) ≡ object_count h + 1
objects-put_object h n o low = objects-change h (put_object h n o) n refl low (put-other h n o) ∙ ap (λ x. object_count h + one_if_there x) (put-here h n o)

-- ---- an object that leaves

pub without-here : (h : Heap) (n : ℕ) → (without h n).at n ≡ None
without-here h n = ap (λ b. cond b None (h.at n)) (eqb-here n)

pub without-other : (h : Heap) (n k : ℕ) → (k ≡ n → ⊥) → (without h n).at k ≡ h.at k
without-other h n k other = ap (λ b. cond b None (h.at k)) (eqb-other k n other)

pub freed-count : (h : Heap) (n q : ℕ) → n < h.next → count_of (without h n) q + words_in q (h.at n) ≡ count_of h q
freed-count h n q low =
    let a = count-change h (without h n) n q refl low (without-other h n) in
    let b = ap (words_in q) (without-here h n) in
    omega arith

pub freed-objects : (h : Heap) (n : ℕ) → n < h.next → object_count (without h n) + one_if_there (h.at n) ≡ object_count h
freed-objects h n low =
    let a = objects-change h (without h n) n refl low (without-other h n) in
    let b = ap one_if_there (without-here h n) in
    omega arith

-- ---- an object made

add-below : (h : Heap) (o : Object) (k : ℕ) → k < h.next → (add_object h o).at k ≡ h.at k
add-below h o k low = ap (λ b. cond b (Some o) (h.at k)) (eqb-other k h.next (λ is. omega arith))

add-here : (h : Heap) (o : Object) → (add_object h o).at h.next ≡ Some o
add-here h o = ap (λ b. cond b (Some o) (h.at h.next)) (eqb-here h.next)

add-after : (h : Heap) (o : Object) → IsBounded h → (add_object h o).at (h.next + 1) ≡ None
add-after h o b = ap (λ x. cond x (Some o) (h.at (h.next + 1))) (eqb-other (h.next + 1) h.next (λ is. omega arith)) ∙ b.bounded (h.next + 1) (omega arith)

sum-two : (n : ℕ) (f : ℕ → ℕ) → sum_below (n + 2) f ≡ sum_below n f + f n + f (n + 1)
sum-two n f = subst (λ m. sum_below m f ≡ sum_below n f + f n + f (n + 1)) two (ap (λ m. sum_below n f + f n + f m) one)
  where
    two : suc (suc n) ≡ n + 2
    two = omega arith

    one : suc n ≡ n + 1
    one = omega arith

pub count-add_object : (h : Heap) (o : Object) (q : ℕ) → IsBounded h → count_of (add_object h o) q ≡ count_of h q + holdings o q
count-add_object h o q b =
    let g : Heap = add_object h o in
    let a = count-sum h q in
    let c = count-sum g q in
    let d = sum-two h.next (λ k. words_in q (g.at k)) in
    let e = sum-same h.next (λ k. words_in q (h.at k)) (λ k. words_in q (g.at k)) (λ k low. ap (words_in q) (add-below h o k low)) in
    let f = ap (words_in q) (add-here h o) in
    let i = ap (words_in q) (add-after h o b) in
    omega arith

pub objects-add_object : (h : Heap) (o : Object) → IsBounded h → object_count (add_object h o) ≡ object_count h + 1
objects-add_object h o b =
    let g : Heap = add_object h o in
    let a = object_count-sum h in
    let c = object_count-sum g in
    let d = sum-two h.next (λ k. one_if_there (g.at k)) in
    let e = sum-same h.next (λ k. one_if_there (h.at k)) (λ k. one_if_there (g.at k)) (λ k low. ap one_if_there (add-below h o k low)) in
    let f = ap one_if_there (add-here h o) in
    let i = ap one_if_there (add-after h o b) in
    omega arith

-- ---- a word of an object stored

-- how often a value is this name
abbrev pub word_is : ℕ → Value → ℕ
word_is q v = cond (is_ref q v) 1 0

-- a place that a list has
pub below_length : (vs : List Value) (i : ℕ) (v : Value) → slice_get vs i ≡ Some v → i < length vs
below_length vs i v e = elim (slice_get_cases vs i).1 as (λ x. i < length vs) [ inl there ↦ there.1 | inr past ↦ absurd (let gone = past.1 in cc) ]

-- a list of words, one of which is replaced
pub count-slice_set : (q : ℕ) (vs : List Value) (i : ℕ) (v w : Value) → slice_get vs i ≡ Some v → count_by (is_ref q) (slice_set vs i w) + word_is q v ≡ count_by (is_ref q) vs + word_is q w
count-slice_set q vs i v w e =
    let low = below_length vs i v e in
    let is = get_or_from_slice_get vs i v v e in
    let a = sum_by-set (λ x. word_is q x) vs i w v low in
    let b = ap (word_is q) is in
    omega arith

-- an object, one field of which is replaced
pub holdings-with_field : (o : Object) (i q : ℕ) (v w : Value) → field_of o.body i ≡ Some v → holdings (record { class = o.class; body = with_field o.body i w }) q + word_is q v ≡ holdings o q + word_is q w
holdings-with_field o i q v w e =
    let class : ℕ = cond (eqb o.class q) 1 0 in
    let a = ap (count_by (is_ref q)) (fields-with_field o.body i w) in
    let b = count-slice_set q (fields_of o.body) i v w e in
    omega arith

-- a store into a field: one word less of what it was, and one more of what it is
pub count-store : (h : Heap) (n : ℕ) (o : Object) (i q : ℕ) (v w : Value) → IsBounded h → h.at n ≡ Some o → field_of o.body i ≡ Some v → count_of (put_object h n (record { class = o.class; body = with_field o.body i w })) q + word_is q v ≡ count_of h q + word_is q w
count-store h n o i q v w b there e =
    let low = has_below h n b (ap is_some there) in
    let a = count-put_object h n (record { class = o.class; body = with_field o.body i w }) q low in
    let c = ap (words_in q) there in
    let d = holdings-with_field o i q v w e in
    omega arith

-- another body with the same fields leaves all counts
pub count-same_fields : (h : Heap) (n : ℕ) (o : Object) (body : Body) (q : ℕ) → IsBounded h → h.at n ≡ Some o → fields_of body ≡ fields_of o.body → count_of (put_object h n (record { class = o.class; body = body })) q ≡ count_of h q
count-same_fields h n o body q b there e =
    let low = has_below h n b (ap is_some there) in
    let class : ℕ = cond (eqb o.class q) 1 0 in
    let a = count-put_object h n (record { class = o.class; body = body }) q low in
    let c = ap (words_in q) there in
    let d : holdings (record { class = o.class; body = body }) q ≡ holdings o q = ap (λ values. class + count_by (is_ref q) values) e in
    omega arith

-- ---- what counts say

-- where no word of a heap is a name, no object holds it
pub unheld : (h : Heap) (q : ℕ) → IsBounded h → count_of h q ≡ 0 → (k : ℕ) (o : Object) → h.at k ≡ Some o → holds o q ≡ true → ⊥
unheld h q b zero_count k o there held =
    let low = has_below h k b (ap is_some there) in
    let none = sum-zero h.next (λ k. words_in q (h.at k)) (sym (count-sum h q) ∙ zero_count) k low in
    let here : holdings o q ≡ 0 = sym (ap (words_in q) there) ∙ none in
    let yes : nat_lt 0 (holdings o q) ≡ true = sym (holds-counted o q) ∙ held in
    let no : nat_lt 0 (holdings o q) ≡ false = ap (λ n. nat_lt 0 n) here in
    no_both (nat_lt 0 (holdings o q)) yes no
  where
    no_both : (b : Bool) → b ≡ true → b ≡ false → ⊥
    no_both true e f = cc
    no_both false e f = cc

-- what is counted is held by an object
pub counted-held : (h : Heap) (k q : ℕ) (o : Object) → h.at k ≡ Some o → IsBounded h → holds o q ≡ true → 0 < count_of h q
counted-held h k q o there b held = go (count_of h q) refl
  where
    go : (n : ℕ) → count_of h q ≡ n → 0 < n
    go zero e = absurd (unheld h q b e k o there held)
    go (suc n) e = omega arith

-- no word is counted past this
pub count-limit : (h : Heap) (q limit : ℕ) → ((k : ℕ) (o : Object) → h.at k ≡ Some o → holdings o q ≤ limit) → count_of h q ≤ h.next * limit
count-limit h q limit each =
    let a = count-sum h q in
    let b = sum-limit h.next (λ k. words_in q (h.at k)) limit (λ k low. go k (h.at k) refl) in
    omega arith
  where
    go : (k : ℕ) (x : Option Object) → h.at k ≡ x → words_in q x ≤ limit
    go k None e = omega arith
    go k (Some o) e = each k o e

-- ---- freeing

-- what no word of a heap is may leave it
pub thinner-without : (h : Heap) (n : ℕ) → IsBounded h → count_of h n ≡ 0 → IsThinner h (without h n)
thinner-without h n b e = IsThinner-without h n (λ k o there held. unheld h n b e k o there held)

-- and leaves it whole, where it is not known and in no register or slot
pub whole-without : (h : Heap) (regs : ℕ → Value) (slots : ℕ → Option ℕ) (n : ℕ) → IsWhole h regs slots → IsBounded h → count_of h n ≡ 0 → is_known n ≡ false → ((r : ℕ) → regs r ≡ Ref n → ⊥) → ((i : ℕ) → slots i ≡ Some n → ⊥) → IsWhole (without h n) regs slots
whole-without h regs slots n w b e unknown out unpinned = IsWhole-without h regs slots n w unknown (λ k o there held. unheld h n b e k o there held) out unpinned

pub thinning-without : (h : Heap) (regs : ℕ → Value) (slots : ℕ → Option ℕ) (n : ℕ) → IsWhole h regs slots → IsBounded h → count_of h n ≡ 0 → is_known n ≡ false → ((r : ℕ) → regs r ≡ Ref n → ⊥) → ((i : ℕ) → slots i ≡ Some n → ⊥) → IsThinning h (without h n) regs slots
thinning-without h regs slots n w b e unknown out unpinned = record { thinner = thinner-without h n b e; whole = whole-without h regs slots n w b e unknown out unpinned }

-- ---- what is left at the end

-- where each object is known, a root or counted, all is kept
pub kept-rooted : (h : Heap) (root : ℕ → Bool) → ((q : ℕ) → Has h q → is_known q ≡ false → root q ≡ false → count_of h q ≡ 0 → ⊥) → kept h root ≡ h
kept-rooted h root none = kept-same h root (fixed-same h root (record { fixed = λ q there. left-by_count h root q ∙ go q there (is_known q) refl (root q) refl (count_of h q) refl }))
  where
    go : (q : ℕ) → Has h q → (a : Bool) → is_known q ≡ a → (c : Bool) → root q ≡ c → (n : ℕ) → count_of h q ≡ n → (is_known q || (root q || nat_lt 0 (count_of h q))) ≡ true
    go q there true e c f n g = ap (λ a. a || (root q || nat_lt 0 (count_of h q))) e
    go q there false e true f n g = ap₂ (λ a c. a || (c || nat_lt 0 (count_of h q))) e f
    go q there false e false f zero g = absurd (none q there e f g)
    go q there false e false f (suc n) g =
        let positive : nat_lt 0 (suc n) ≡ true = grind (arith, common_steps) in
        ap₂ (λ a c. a || (c || nat_lt 0 (count_of h q))) e f ∙ ap (λ m. nat_lt 0 m) g ∙ positive

-- the end of draining: a thinning in which nothing is dead is what is kept of the heap
pub drained-kept : (h s : Heap) (regs : ℕ → Value) (slots : ℕ → Option ℕ) (root : ℕ → Bool) → IsThinning h s regs slots → IsBounded h → ((q : ℕ) → root q ≡ true → Has s q) → ((q : ℕ) → Has s q → is_known q ≡ false → root q ≡ false → count_of s q ≡ 0 → ⊥) → s ≡ kept h root
drained-kept h s regs slots root t b rooted none = sym (kept-rooted s root none) ∙ kept-thinning h s regs slots root t b rooted
