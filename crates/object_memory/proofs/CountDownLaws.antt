-- Laws of counting down the words of an object, and of the list of dead names.
use Rattle.std.proofs.Common.{zero, suc, ◌≡◌, ◌≢◌, ℕ, ℤ, ◌+◌, ◌*◌, ◌<◌, ◌≤◌, nat_lt, Bool, true, false, not, ◌&&◌, ◌||◌, cond, eqb, List, [], ◌∷◌, ◌++◌, length, take, Option, Some, None, is_some, refl, sym, ◌∙◌, ap, ap₂, subst, arith, inl, inr, ⊎_elim, length-append, take_all}
use Rattle.std.proofs.lemmas.Grind.{common_steps}
use Rattle.std.proofs.lemmas.Bool.{cases_eq}
use Rattle.std.proofs.lemmas.List.Elements.{All-push, All-pop, All-weaker, Contains-push, Contains-push_cases, Contains-append_left, filter_passes}
use Rattle.std.proofs.lemmas.List.Sums.{sum_by-take-le}
use Rattle.std.proofs.lemmas.Map.Lookups.{exact_unsigned}
use Rattle.std.proofs.lemmas.Map.Views.{any-filter_same, list_any-from_Contains, Contains-from_any, exact_unsigned_eq, btree_map_contains_key_iff}
use Rattle.std.specs.Cmp.{nat_cmp_total, nat_eq_equiv}
use Rattle.std.specs.Ordering.{nat_cmp}
use Rattle.std.specs.BTreeMap.{get, keys}
use Rattle.std.specs.List.{All, Contains, filter, count_by, slice_get}
use Rattle.std.specs.Option.{IsSome}
use Rattle.long_names.specs.declared.value.Value.{Value}
use Rattle.long_names.specs.declared.value.Value.TheVariants.{Int, Ref}
use Rattle.long_names.specs.declared.object.Object.{Object}
use Rattle.long_names.specs.Names.{is_known}
use Rattle.long_names.specs.Objects.{holdings, is_ref, fields_of, IsObject}
use Rattle.long_names.specs.Heap.{Heap, Has, IsBounded, object_count, count_of, without}
use Rattle.long_names.specs.Kept.{kept}
use Rattle.long_names.proofs.ThinLemmas.{has}
use Rattle.object_memory.specs.declared.plain.counts.Counts.{Counts}
use Rattle.object_memory.specs.declared.plain.objects.Objects.{Objects}
use Rattle.object_memory.specs.Counts.{count_in}
use Rattle.object_memory.specs.Plain.{heap_of}
use Rattle.object_memory.specs.Worklist.{IsDead, Lists, IsFreeing, CountsDown}
use Rattle.object_memory.proofs.WordLaws.{count_by-more, fields-few}
use Rattle.long_names.proofs.KeptLaws.{fixed-same, kept-same, left-by_count}
use Rattle.long_names.proofs.FreeLaws.{without-here, without-part, without-none, count-without, object_count-without, kept-without}

-- some words after others
down-then : (f g : ℕ → ℕ) (i j : ℕ) (a b c : Counts) (xs ys zs : List ℕ) → CountsDown f i a xs b ys → CountsDown g j b ys c zs → CountsDown (λ q. f q + g q) (i + j) a xs c zs
down-then f g i j a b c xs ys zs one two = record {
  fewer = λ q. let first = one.fewer q in let second = two.fewer q in omega arith;
  sound = λ all. two.sound (one.sound all);
  complete = λ q lists. two.complete q (one.complete q lists);
  short = let first = one.short in let second = two.short in omega arith;
}

-- the same words, said otherwise
down-as : (f g : ℕ → ℕ) (i j : ℕ) (a b : Counts) (xs ys : List ℕ) → ((q : ℕ) → f q ≡ g q) → i ≤ j → CountsDown f i a xs b ys → CountsDown g j a xs b ys
down-as f g i j a b xs ys same up one = record {
  fewer = λ q. let first = one.fewer q in let is = same q in omega arith;
  sound = one.sound;
  complete = one.complete;
  short = let first = one.short in omega arith;
}

-- a value more, which is a name that was counted down
pub down-name : (a b c : Counts) (xs ys zs : List ℕ) (values : List Value) (i name : ℕ) (v : Value) → slice_get values i ≡ Some v → v ≡ Ref name → CountsDown (λ q. count_by (is_ref q) (take i values)) i a xs b ys → CountsDown (λ q. cond (eqb name q) 1 0) 1 b ys c zs → CountsDown (λ q. count_by (is_ref q) (take (i + 1) values)) (i + 1) a xs c zs
down-name a b c xs ys zs values i name v at is first next =
    down-as (λ q. count_by (is_ref q) (take i values) + cond (eqb name q) 1 0) (λ q. count_by (is_ref q) (take (i + 1) values)) (i + 1) (i + 1) a c xs zs
    (λ q. sym (count_by-more q values i v at ∙ ap (λ w. count_by (is_ref q) (take i values) + cond (is_ref q w) 1 0) is)) (omega arith)
    (down-then (λ q. count_by (is_ref q) (take i values)) (λ q. cond (eqb name q) 1 0) i 1 a b c xs ys zs first next)

-- or a number
pub down-number : (a b : Counts) (xs ys : List ℕ) (values : List Value) (i : ℕ) (z : ℤ) (v : Value) → slice_get values i ≡ Some v → v ≡ Int z → CountsDown (λ q. count_by (is_ref q) (take i values)) i a xs b ys → CountsDown (λ q. count_by (is_ref q) (take (i + 1) values)) (i + 1) a xs b ys
down-number a b xs ys values i z v at is first =
    down-as (λ q. count_by (is_ref q) (take i values)) (λ q. count_by (is_ref q) (take (i + 1) values)) i (i + 1) a b xs ys
    (λ q. let more = count_by-more q values i v at ∙ ap (λ w. count_by (is_ref q) (take i values) + cond (is_ref q w) 1 0) is in omega arith) (omega arith) first

-- a name among values is counted before it is counted down
pub counted-yet : (a b : Counts) (xs ys : List ℕ) (values : List Value) (i name : ℕ) (v : Value) → count_by (is_ref name) values ≤ count_in a name → slice_get values i ≡ Some v → v ≡ Ref name → CountsDown (λ q. count_by (is_ref q) (take i values)) i a xs b ys → 0 < count_in b name
counted-yet a b xs ys values i name v counted at is first =
    let more = count_by-more name values i v at ∙ ap (λ w. count_by (is_ref name) (take i values) + cond (is_ref name w) 1 0) is in
    let same : eqb name name ≡ true = grind (arith, common_steps) in
    let one = ap (λ x. let n : ℕ = cond x 1 0 in n) same in
    let part = sum_by-take-le (λ w. cond (is_ref name w) 1 0) values (i + 1) in
    let so_far = first.fewer name in
    omega arith

-- all values of a list
pub down-all : (a b : Counts) (xs ys : List ℕ) (values : List Value) (i : ℕ) → length values ≤ i → i ≤ length values → CountsDown (λ q. count_by (is_ref q) (take i values)) i a xs b ys → CountsDown (λ q. count_by (is_ref q) values) (length values) a xs b ys
down-all a b xs ys values i high low all =
    down-as (λ q. count_by (is_ref q) (take i values)) (λ q. count_by (is_ref q) values) i (length values) a b xs ys (λ q. ap (count_by (is_ref q)) (take_all i values high)) low all

-- the words of an object: its class word, and then its fields
pub down-object : (a b c : Counts) (xs ys zs : List ℕ) (o : Object) (values : List Value) → IsObject o → fields_of o.body ≡ values → CountsDown (λ q. cond (eqb o.class q) 1 0) 1 a xs b ys → CountsDown (λ q. count_by (is_ref q) values) (length values) b ys c zs → CountsDown (holdings o) 65536 a xs c zs
down-object a b c xs ys zs o values object are class fields =
    down-as (λ q. cond (eqb o.class q) 1 0 + count_by (is_ref q) values) (holdings o) (1 + length values) 65536 a c xs zs
    (λ q. ap (λ vs. cond (eqb o.class q) 1 0 + count_by (is_ref q) vs) (sym are)) (let few = fields-few o object in let same = ap length are in omega arith)
    (down-then (λ q. cond (eqb o.class q) 1 0) (λ q. count_by (is_ref q) values) 1 (length values) a b c xs ys zs class fields)

-- what was dead stays dead
dead-still : (a b : Counts) (name q : ℕ) → count_in b q + cond (eqb name q) 1 0 ≡ count_in a q → IsDead a q → IsDead b q
dead-still a b name q less dead = (let none = dead.0 in omega arith, dead.1)

-- and another name than the one that was counted down was dead before
dead-other : (a b : Counts) (name q : ℕ) → count_in b q + cond (eqb name q) 1 0 ≡ count_in a q → q ≢ name → IsDead b q → IsDead a q
dead-other a b name q less apart dead = let none = dead.0 in let other : eqb name q ≡ false = grind (arith, common_steps) in (sym less ∙ ap₂ (λ n x. n + cond x 1 0) none other, dead.1)

-- a name that died goes on the list
pub down-dead : (a b : Counts) (name : ℕ) (xs ys : List ℕ) → ((q : ℕ) → count_in b q + cond (eqb name q) 1 0 ≡ count_in a q) → IsDead b name → ys ≡ xs ++ name ∷ [] → CountsDown (λ q. cond (eqb name q) 1 0) 1 a xs b ys
down-dead a b name xs ys less dead is = record {
  fewer = less;
  sound = λ all. subst (λ zs. All (IsDead b) zs) (sym is) (All-push (IsDead b) xs name (All-weaker (IsDead a) (IsDead b) (λ q. dead-still a b name q (less q)) xs all) dead);
  complete = λ q lists now. subst (λ zs. Contains zs q) (sym is) (⊎_elim (λ (same : q ≡ name). subst (Contains (xs ++ name ∷ [])) (sym same) (Contains-push xs name)) (λ (apart : q ≢ name). Contains-append_left xs (name ∷ []) q (lists (dead-other a b name q (less q) apart now))) (cases_eq q name));
  short = let long = ap length is in omega (arith, length-append xs (name ∷ []));
}

-- and one that didn't doesn't
pub down-alive : (a b : Counts) (name : ℕ) (xs : List ℕ) → ((q : ℕ) → count_in b q + cond (eqb name q) 1 0 ≡ count_in a q) → (IsDead b name → ⊥) → CountsDown (λ q. cond (eqb name q) 1 0) 1 a xs b xs
down-alive a b name xs less alive = record {
  fewer = less;
  sound = λ all. All-weaker (IsDead a) (IsDead b) (λ q. dead-still a b name q (less q)) xs all;
  complete = λ q lists now. ⊎_elim (λ (same : q ≡ name). absurd (alive (subst (IsDead b) same now))) (λ (apart : q ≢ name). lists (dead-other a b name q (less q) apart now)) (cases_eq q name);
  short = omega arith;
}

-- ---- the list

-- a list that a test leaves of one that contains a name has it, where it passes
Contains-filter : (p : ℕ → Bool) (q : ℕ) (ks : List ℕ) → p q ≡ true → Contains ks q → Contains (filter p ks) q
Contains-filter p q ks passes has_it = Contains-from_any exact_unsigned_eq q (filter p ks) (any-filter_same (eqb q) p true (λ k is. let same : q ≡ k = grind (arith, common_steps) in ap p (sym same) ∙ passes) ks ∙ list_any-from_Contains nat_eq_equiv q ks has_it)

-- the test of a dead name
abbrev pub is_dead : Counts → ℕ → Bool
is_dead counts q = not (is_known q) && eqb (count_in counts q) 0

dead-tested : (known : Bool) (count : ℕ) → (not known && eqb count 0) ≡ true → (count ≡ 0) × (known ≡ false)
dead-tested true count e = cc
dead-tested false count e = (grind (arith, common_steps), refl)

tested-dead : (known : Bool) (count : ℕ) → (count ≡ 0) × (known ≡ false) → (not known && eqb count 0) ≡ true
tested-dead known count dead = ap₂ (λ b n. not b && eqb n 0) dead.1 dead.0

-- the names of a map that pass it are those to begin with
pub freeing-start : (out : ℕ → ℕ) (m : Objects) (counts : Counts) (dead : List ℕ) → ((q : ℕ) → count_in counts q ≡ out q + count_of (heap_of m) q) → dead ≡ filter (is_dead counts) (keys m.objects) → IsFreeing out (heap_of m) counts dead
freeing-start out m counts dead exact is = record {
  exact = exact;
  sound = subst (λ ks. All (IsDead counts) ks) (sym is) (All-weaker (λ q. is_dead counts q ≡ true) (IsDead counts) (λ q e. dead-tested (is_known q) (count_in counts q) e) (filter (is_dead counts) (keys m.objects)) (filter_passes (is_dead counts) (keys m.objects)));
  complete = λ q there now. subst (λ ks. Contains ks q) (sym is) (Contains-filter (is_dead counts) q (keys m.objects) (tested-dead (is_known q) (count_in counts q) now) (key q (get nat_cmp m.objects q) refl there));
}
  where
    key : (q : ℕ) (x : Option Object) → get nat_cmp m.objects q ≡ x → is_some x ≡ true → Contains (keys m.objects) q
    key q None e there = cc
    key q (Some o) e there = (btree_map_contains_key_iff nat_cmp_total exact_unsigned m.objects q).0 (subst IsSome (sym e) refl)

-- the name that was taken off the list
pub freeing-dead : (out : ℕ → ℕ) (h : Heap) (counts : Counts) (was rest : List ℕ) (name : ℕ) → IsFreeing out h counts was → was ≡ rest ++ name ∷ [] → IsDead counts name
freeing-dead out h counts was rest name f is = (All-pop (IsDead counts) was rest (Some name) is f.sound).1

-- what is left of the list has the dead names of what is left of the heap
freeing-rest : (out : ℕ → ℕ) (h : Heap) (counts : Counts) (was rest : List ℕ) (name q : ℕ) → IsFreeing out h counts was → was ≡ rest ++ name ∷ [] → Has (without h name) q → Lists counts rest q
freeing-rest out h counts was rest name q f is there now =
    let had = has (without h name) q there in
    let listed = f.complete q (ap is_some ((without-part h name).same q had.0 had.1)) now in
    elim (Contains-push_cases rest name q (subst (λ ks. Contains ks q) is listed)) [ inl rest ↦ rest | inr same ↦ absurd (let gone = without-here h name in let left : (without h name).at name ≡ Some had.0 = subst (λ k. (without h name).at k ≡ Some had.0) (sym same) had.1 in cc) ]

-- without its object, and with its words counted down
pub freeing-freed : (out : ℕ → ℕ) (h : Heap) (a b : Counts) (was rest is : List ℕ) (name i : ℕ) (o : Object) → IsBounded h → IsFreeing out h a was → was ≡ rest ++ name ∷ [] → h.at name ≡ Some o → CountsDown (holdings o) i a rest b is → IsFreeing out (without h name) b is
freeing-freed out h a b was rest is name i o bounded f e there down = record {
  exact = λ q. let now = down.fewer q in let before = f.exact q in let left = count-without h name o q bounded there in omega arith;
  sound = down.sound (All-pop (IsDead a) was rest (Some name) e f.sound).0;
  complete = λ q left. down.complete q (freeing-rest out h a was rest name q f e left);
}

-- a name without an object is passed over
pub freeing-passed : (out : ℕ → ℕ) (h : Heap) (counts : Counts) (was rest : List ℕ) (name : ℕ) → IsFreeing out h counts was → was ≡ rest ++ name ∷ [] → h.at name ≡ None → IsFreeing out (without h name) counts rest
freeing-passed out h counts was rest name f e none = record {
  exact = λ q. f.exact q ∙ ap (λ g. out q + count_of g q) (sym (without-none h name none));
  sound = (All-pop (IsDead counts) was rest (Some name) e f.sound).0;
  complete = λ q left. freeing-rest out h counts was rest name q f e left;
}

-- the words that an object has are counted
pub freeing-counted : (out : ℕ → ℕ) (h : Heap) (counts : Counts) (was : List ℕ) (name : ℕ) (o : Object) → IsBounded h → IsFreeing out h counts was → h.at name ≡ Some o → (q : ℕ) → holdings o q ≤ count_in counts q
freeing-counted out h counts was name o bounded f there q = let before = f.exact q in let left = count-without h name o q bounded there in omega arith

-- names that words outside hold are roots
abbrev pub roots_by : (ℕ → ℕ) → ℕ → Bool
roots_by out q = nat_lt 0 (out q)

-- what is kept is kept
pub freeing-kept : (out : ℕ → ℕ) (h : Heap) (counts : Counts) (was : List ℕ) (name : ℕ) → IsBounded h → IsFreeing out h counts was → IsDead counts name → kept (without h name) (roots_by out) ≡ kept h (roots_by out)
freeing-kept out h counts was name bounded f dead =
    let exact = f.exact name in
    let none = dead.0 in
    let outside : out name ≡ 0 = omega arith in
    let inside : count_of h name ≡ 0 = omega arith in
    kept-without h (roots_by out) name bounded (left-by_count h (roots_by out) name ∙ ap₂ (λ x k. x || (nat_lt 0 k || nat_lt 0 (count_of h name))) dead.1 outside ∙ ap (nat_lt 0) inside)

-- at the end all that is left is kept
pub freeing-end : (out : ℕ → ℕ) (h : Heap) (counts : Counts) (dead : List ℕ) → IsFreeing out h counts dead → length dead ≡ 0 → kept h (roots_by out) ≡ h
freeing-end out h counts dead f none = kept-same h (roots_by out) (fixed-same h (roots_by out) (record { fixed = λ q there. left-by_count h (roots_by out) q ∙ go q there (is_known q) refl (out q) refl (count_of h q) refl }))
  where
    go : (q : ℕ) → Has h q → (x : Bool) → is_known q ≡ x → (i : ℕ) → out q ≡ i → (k : ℕ) → count_of h q ≡ k → (is_known q || (nat_lt 0 (out q) || nat_lt 0 (count_of h q))) ≡ true
    go q there true e i f' k g = ap (λ x. x || (nat_lt 0 (out q) || nat_lt 0 (count_of h q))) e
    go q there false e zero f' zero g =
        let exact = f.exact q in
        let place = f.complete q there ((let uncounted : count_in counts q ≡ 0 = omega arith in uncounted), e) in
        let low = place.1 in
        absurd (omega arith)
    go q there false e (suc i) f' k g =
        let some : nat_lt 0 (suc i) ≡ true = grind (arith, common_steps) in
        ap₂ (λ x n. x || (nat_lt 0 n || nat_lt 0 (count_of h q))) e f' ∙ ap (λ b. b || nat_lt 0 (count_of h q)) some
    go q there false e zero f' (suc k) g =
        let some : nat_lt 0 (suc k) ≡ true = grind (arith, common_steps) in
        ap₂ (λ x n. x || (nat_lt 0 n || nat_lt 0 (count_of h q))) e f' ∙ ap (nat_lt 0) g ∙ some

-- a turn takes an object away, or shortens the list
pub freeing-smaller : (h : Heap) (name before after : ℕ) → IsBounded h → after ≤ before + cond (is_some (h.at name)) 65536 0 → 65537 * object_count (without h name) + after < 65537 * object_count h + (before + 1)
freeing-smaller h name before after bounded short = go (h.at name) refl
  where
    go : (x : Option Object) → h.at name ≡ x → 65537 * object_count (without h name) + after < 65537 * object_count h + (before + 1)
    go None e = let same = ap object_count (without-none h name e) in let by = ap (λ x. let n : ℕ = cond (is_some x) 65536 0 in n) e in omega arith
    go (Some o) e = let fewer = object_count-without h name o bounded e in let by = ap (λ x. let n : ℕ = cond (is_some x) 65536 0 in n) e in omega arith
