-- The slots of a method dictionary, place by place of the round.
-- A rule takes a slot in one look, and the code reads slot by slot. So the loop of `find_slot` keeps a fact of the heap at its
-- entry (`HasPassed`: the places before this one hold neither nil nor the selector), which `passed_more` takes on, and
-- `slot_found`, `slot_nil` and `slot_past` turn into what the rule sees.
use Rattle.std.proofs.Common.{◌≡◌, zero, suc, ℕ, ◌+◌, ◌-◌, ◌/◌, ◌<◌, ◌≤◌, nat_lt, Bool, true, false, cond, eqb, List, [], ◌∷◌, length, drop, bit_and, Option, Some, None, IsTrue, refl, sym, ◌∙◌, ap, arith}
use Rattle.std.proofs.lemmas.Grind.{common_steps}
use borrow.Author.Tests.{ltb-true, ltb-false, le-leb}
use Rattle.std.specs.Prelude.{◌↔◌}
use Rattle.std.specs.List.{slice_get}
use Rattle.std.specs.Option.{option_and_then}
use Rattle.std.proofs.lemmas.Nat.{and_le_r}
use Rattle.std.proofs.lemmas.Option.{slice_get_past}
use Rattle.std.proofs.lemmas.List.{length-drop}
use Rattle.long_names.specs.declared.value.Value.{Value}
use Rattle.long_names.specs.declared.value.Value.TheVariants.{Int, Ref}
use Rattle.long_names.specs.declared.object.Body.{Body}
use Rattle.long_names.specs.declared.object.Body.TheVariants.{Pointers, Words, Bytes, Method}
use Rattle.long_names.specs.declared.object.Object.{Object}
use Rattle.long_names.specs.Objects.{is_ref, field_of, pointers_of}
use Rattle.long_names.specs.Heap.{Heap}
use Rattle.long_names.specs.State.{IsRef, name_at, object_at, part_at, HasPart}
use Rattle.blue_model.specs.Parts.{is_nil, at_least, shaped}
use Rattle.blue_model.proofs.PlaceLaws.{turned_length, turned_at}
use Rattle.blue_model.specs.Lookup.{raised, place_in, first_slot, turned, turned_back, slot_in, slot_of}

-- ---- the place of the selector

-- the first so many of a list are neither nil nor this name
abbrev pub Passed : ℕ → List Value → ℕ → Type 0
Passed selector xs k = (i : ℕ) → i < k → (v : Value) × (slice_get xs i ≡ Some v) × (is_nil v ≡ false) × (is_ref selector v ≡ false)

passed_rest : (selector : ℕ) (v : Value) (vs : List Value) (k : ℕ) → Passed selector (v ∷ vs) (suc k) → Passed selector vs k
passed_rest selector v vs k passed = λ i low. passed (suc i) (omega arith)

place_next : (selector : ℕ) (v : Value) (vs : List Value) → is_nil v ≡ false → is_ref selector v ≡ false → place_in selector (v ∷ vs) ≡ raised (place_in selector vs)
place_next selector v vs e f = ap (λ b. cond b None (cond (is_ref selector v) (Some 0) (raised (place_in selector vs)))) e ∙ ap (λ b. cond b (Some 0) (raised (place_in selector vs))) f

passed_first : (selector : ℕ) (v : Value) (vs : List Value) (k : ℕ) → Passed selector (v ∷ vs) (suc k) → place_in selector (v ∷ vs) ≡ raised (place_in selector vs)
passed_first selector v vs k passed =
    let it = passed 0 (omega arith) in
    let same : v ≡ it.0 = cc in
    place_next selector v vs (ap is_nil same ∙ it.2) (ap (is_ref selector) same ∙ it.3)

-- the list ended,
pub place_none : (selector : ℕ) (xs : List Value) (k : ℕ) → Passed selector xs k → slice_get xs k ≡ None → place_in selector xs ≡ None
place_none selector [] k passed e = refl
place_none selector (v ∷ vs) zero passed e = let no : ◌≡◌ {A = Option Value} (Some v) None = e in absurd (cc)
place_none selector (v ∷ vs) (suc k) passed e = passed_first selector v vs k passed ∙ ap raised (place_none selector vs k (passed_rest selector v vs k passed) e)

-- there was nil,
pub place_nil : (selector : ℕ) (xs : List Value) (k : ℕ) (w : Value) → Passed selector xs k → slice_get xs k ≡ Some w → is_nil w ≡ true → place_in selector xs ≡ None
place_nil selector [] k w passed e nil = refl
place_nil selector (v ∷ vs) zero w passed e nil =
    let same : v ≡ w = cc in
    ap (λ b. cond b None (cond (is_ref selector v) (Some 0) (raised (place_in selector vs)))) (ap is_nil same ∙ nil)
place_nil selector (v ∷ vs) (suc k) w passed e nil = passed_first selector v vs k passed ∙ ap raised (place_nil selector vs k w (passed_rest selector v vs k passed) e nil)

-- and there was the selector.
pub place_found : (selector : ℕ) (xs : List Value) (k : ℕ) (w : Value) → Passed selector xs k → slice_get xs k ≡ Some w → is_nil w ≡ false → is_ref selector w ≡ true → place_in selector xs ≡ Some k
place_found selector [] k w passed e some is = let no : ◌≡◌ {A = Option Value} None (Some w) = e in absurd (cc)
place_found selector (v ∷ vs) zero w passed e some is =
    let same : v ≡ w = cc in
    ap (λ b. cond b None (cond (is_ref selector v) (Some 0) (raised (place_in selector vs)))) (ap is_nil same ∙ some) ∙ ap (λ b. cond b (Some 0) (raised (place_in selector vs))) (ap (is_ref selector) same ∙ is)
place_found selector (v ∷ vs) (suc k) w passed e some is = passed_first selector v vs k passed ∙ ap raised (place_found selector vs k w (passed_rest selector v vs k passed) e some is)

-- ---- a dictionary

-- the slots of the dictionary that a value names, and where the round of a selector begins
pub record IsRound (h : Heap) (v selector : Value) (slots first : ℕ) : Type 0 where
  pub values : List Value
  pub count : length values ≡ slots
  pub begins : first ≡ first_slot (name_at selector) slots
  pub low : first < slots
  pub at : (i : ℕ) → part_at h v (λ b. field_of b (2 + i)) ≡ slice_get values i
  pub slot : option_and_then (slot_of selector) (object_at h v) ≡ Some (slot_in (name_at selector) values)

two_first : (xs : List Value) → 2 ≤ length xs → (i : ℕ) → slice_get xs (2 + i) ≡ slice_get (drop 2 xs) i
two_first [] low i = absurd (omega arith)
two_first (a ∷ []) low i = absurd (omega arith)
two_first (a ∷ b ∷ vs) low i = let two : 2 + i ≡ suc (suc i) = omega arith in ap (slice_get (a ∷ b ∷ vs)) two

pub dictionary : (h : Heap) (v selector : Value) (fields slots first : ℕ) → HasPart h v pointers_of (λ xs. length xs ≡ fields) → 3 ≤ fields → slots ≡ fields - 2 → first ≡ bit_and (name_at selector / 2) (slots - 1) → IsRound h v selector slots first
unfolding slot_of
dictionary h v selector fields slots first has three cut begins = record {
  values = drop 2 has.0;
  count = omega (arith, length-drop 2 has.0, has.2);
  begins = begins;
  low = omega (arith, begins, and_le_r (name_at selector / 2) (slots - 1));
  at = λ i. field (object_at h v) i has.1 ∙ two_first has.0 (omega (arith, has.2)) i;
  slot = found (object_at h v) has.1;
}
  where
    of_body : (b : Body) (i : ℕ) → pointers_of b ≡ Some has.0 → field_of b (2 + i) ≡ slice_get has.0 (2 + i)
    of_body (Pointers values) i e = let same : values ≡ has.0 = cc in ap (λ (ys : List Value). slice_get ys (2 + i)) same
    of_body (Words words) i e = let no : ◌≡◌ {A = Option (List Value)} None (Some has.0) = e in absurd (cc)
    of_body (Bytes bytes) i e = let no : ◌≡◌ {A = Option (List Value)} None (Some has.0) = e in absurd (cc)
    of_body (Method header literals code) i e = let no : ◌≡◌ {A = Option (List Value)} None (Some has.0) = e in absurd (cc)

    field : (x : Option Object) (i : ℕ) → option_and_then (λ (o : Object). pointers_of o.body) x ≡ Some has.0 → option_and_then (λ (o : Object). field_of o.body (2 + i)) x ≡ slice_get has.0 (2 + i)
    field None i e = let no : ◌≡◌ {A = Option (List Value)} None (Some has.0) = e in absurd (cc)
    field (Some o) i e = of_body o.body i e

    taken : Option (List Value) → Option (Option ℕ)
    taken x = option_and_then (λ (values : List Value). Some (slot_in (name_at selector) (drop 2 values))) x

    found : (x : Option Object) → option_and_then (λ (o : Object). pointers_of o.body) x ≡ Some has.0 → option_and_then (λ (o : Object). taken (shaped 3 o)) x ≡ Some (slot_in (name_at selector) (drop 2 has.0))
    found None e = let no : ◌≡◌ {A = Option (List Value)} None (Some has.0) = e in absurd (cc)
    found (Some o) e = ap (λ (y : Option (List Value)). taken (option_and_then (at_least 3) y)) e ∙ ap (λ b. taken (cond b (Some has.0) None)) (le-leb 3 (length has.0) (omega (arith, has.2)))

-- the first so many places of the round hold neither nil nor the selector
abbrev pub HasPassed : Heap → Value → Value → ℕ → ℕ → ℕ → Type 0
HasPassed h v selector slots first k = (i : ℕ) → i < k → (w : Value) × (part_at h v (λ b. field_of b (2 + turned_back first slots i)) ≡ Some w) × (is_nil w ≡ false) × (is_ref (name_at selector) w ≡ false)

-- what a slot holds, by its place
pub by_place : (h : Heap) (v w : Value) (slots first k slot : ℕ) → slot ≡ turned_back first slots k → part_at h v (λ b. field_of b (2 + slot)) ≡ Some w → part_at h v (λ b. field_of b (2 + turned_back first slots k)) ≡ Some w
by_place h v w slots first k slot e is = ap (λ i. part_at h v (λ b. field_of b (2 + i))) (sym e) ∙ is

-- one place more
pub passed_more : (h : Heap) (v selector : Value) (slots first k : ℕ) (w : Value) → HasPassed h v selector slots first k → part_at h v (λ b. field_of b (2 + turned_back first slots k)) ≡ Some w → is_nil w ≡ false → is_ref (name_at selector) w ≡ false → HasPassed h v selector slots first (k + 1)
passed_more h v selector slots first k w passed e f g = λ i low. go i (nat_lt i k) refl low
  where
    go : (i : ℕ) (b : Bool) → nat_lt i k ≡ b → i < k + 1 → (w : Value) × (part_at h v (λ b. field_of b (2 + turned_back first slots i)) ≡ Some w) × (is_nil w ≡ false) × (is_ref (name_at selector) w ≡ false)
    go i true is low = passed i (ltb-true i k is)
    go i false is low =
        let above = ltb-false i k is in
        let same : i ≡ k = omega arith in
        (w, ap (λ j. part_at h v (λ b. field_of b (2 + turned_back first slots j))) same ∙ e, f, g)

-- a place of the round is one of the turned slots
place_at : {h : Heap} {v selector : Value} {slots first : ℕ} (x : IsRound h v selector slots first) (i : ℕ) → i < slots → slice_get (turned (first_slot (name_at selector) (length x.values)) x.values) i ≡ part_at h v (λ b. field_of b (2 + turned_back first slots i))
place_at {h} {v} {selector} {slots} {first} x i low =
    let begins : first_slot (name_at selector) (length x.values) ≡ first = ap (first_slot (name_at selector)) x.count ∙ sym x.begins in
    ap (λ f. slice_get (turned f x.values) i) begins
    ∙ turned_at first x.values i (omega (arith, x.count, x.low)) (omega (arith, x.count))
    ∙ ap (λ n. slice_get x.values (turned_back first n i)) x.count
    ∙ sym (x.at (turned_back first slots i))

all_passed : {h : Heap} {v selector : Value} {slots first : ℕ} (x : IsRound h v selector slots first) (k : ℕ) → k ≤ slots → HasPassed h v selector slots first k → Passed (name_at selector) (turned (first_slot (name_at selector) (length x.values)) x.values) k
all_passed x k low passed = λ i below. (let it = passed i below in (it.0, place_at x i (omega arith) ∙ it.1, it.2, it.3))

-- the slot by the place
slot_by : {h : Heap} {v selector : Value} {slots first : ℕ} (x : IsRound h v selector slots first) (o : Option ℕ) → place_in (name_at selector) (turned (first_slot (name_at selector) (length x.values)) x.values) ≡ o → option_and_then (slot_of selector) (object_at h v) ≡ Some (option_and_then (λ i. Some (turned_back first slots i)) o)
slot_by {h} {v} {selector} {slots} {first} x o e =
    let begins : first_slot (name_at selector) (length x.values) ≡ first = ap (first_slot (name_at selector)) x.count ∙ sym x.begins in
    x.slot
    ∙ ap (λ (p : Option ℕ). Some (option_and_then (λ i. Some (turned_back (first_slot (name_at selector) (length x.values)) (length x.values) i)) p)) e
    ∙ ap (λ f. Some (option_and_then (λ i. Some (turned_back f (length x.values) i)) o)) begins
    ∙ ap (λ n. Some (option_and_then (λ i. Some (turned_back first n i)) o)) x.count

-- No slot has the selector where all places were passed,
pub slot_past : {h : Heap} {v selector : Value} {slots first : ℕ} → IsRound h v selector slots first → HasPassed h v selector slots first slots → option_and_then (slot_of selector) (object_at h v) ≡ Some None
slot_past {h} {v} {selector} {slots} {first} x passed =
    let s : ℕ = first_slot (name_at selector) (length x.values) in
    let low : s < length x.values = omega (arith, x.count, x.low, x.begins, ap (first_slot (name_at selector)) x.count) in
    slot_by x None (place_none (name_at selector) (turned s x.values) slots (all_passed x slots (omega arith) passed) (slice_get_past (turned s x.values) slots (omega (arith, turned_length s x.values (omega (arith, low)), x.count))))

-- or where nil came before,
pub slot_nil : {h : Heap} {v selector : Value} {slots first : ℕ} (k : ℕ) (w : Value) → IsRound h v selector slots first → k < slots → HasPassed h v selector slots first k → part_at h v (λ b. field_of b (2 + turned_back first slots k)) ≡ Some w → is_nil w ≡ true → option_and_then (slot_of selector) (object_at h v) ≡ Some None
slot_nil {h} {v} {selector} {slots} {first} k w x low passed e nil = slot_by x None (place_nil (name_at selector) _ k w (all_passed x k (omega arith) passed) (place_at x k low ∙ e) nil)

-- and otherwise it is where it stands first.
pub slot_found : {h : Heap} {v selector : Value} {slots first : ℕ} (k : ℕ) (w : Value) → IsRound h v selector slots first → k < slots → HasPassed h v selector slots first k → part_at h v (λ b. field_of b (2 + turned_back first slots k)) ≡ Some w → is_nil w ≡ false → is_ref (name_at selector) w ≡ true → option_and_then (slot_of selector) (object_at h v) ≡ Some (Some (turned_back first slots k))
slot_found {h} {v} {selector} {slots} {first} k w x low passed e some is = slot_by x (Some k) (place_found (name_at selector) _ k w (all_passed x k (omega arith) passed) (place_at x k low ∙ e) some is)

-- ---- the selector in a slot

pub is_selector : (v selector : Value) → IsRef selector → v ≡ selector → is_ref (name_at selector) v ≡ true
is_selector v (Int z) ref e = absurd ref
is_selector v (Ref n) ref e = ap (is_ref n) e ∙ grind (arith, common_steps)

pub not_selector : (v selector : Value) → IsRef selector → (v ≡ selector → ⊥) → is_ref (name_at selector) v ≡ false
not_selector v (Int z) ref apart = absurd ref
not_selector (Int z) (Ref n) ref apart = refl
not_selector (Ref m) (Ref n) ref apart = go (eqb m n) refl
  where
    go : (b : Bool) → eqb m n ≡ b → b ≡ false
    go true e = let same : m ≡ n = grind (arith, common_steps, e) in absurd (apart (ap (λ k. Ref k) same))
    go false e = refl

-- a test that was not passed
pub differs : (b : Bool) (P : Type 0) → (IsTrue b ↔ P) → b ≡ false → P → ⊥
differs true P test e p = let no : ◌≡◌ {A = Bool} true false = e in absurd (cc)
differs false P test e p = let no : ◌≡◌ {A = Bool} false true = test.1 p in absurd (cc)
