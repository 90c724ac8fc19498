-- A lookup takes the first class of the class list whose slots hold the selector, and there its first place.
use Rattle.std.proofs.Common.{zero, suc, ◌≡◌, ℕ, Bool, true, false, List, [], ◌∷◌, ◌++◌, length, drop, Option, Some, None, refl, sym, ◌∙◌, ap, subst, if◌then◌else◌}
use Rattle.std.specs.Option.{option_and_then}
use Rattle.long_names.specs.declared.value.Value.{Value}
use Rattle.long_names.specs.declared.object.Object.{Object}
use Rattle.long_names.specs.Objects.{is_ref}
use Rattle.long_names.specs.State.{object_at, name_at}
use Rattle.blue_model.specs.declared.cause.Cause.{Cause}
use Rattle.blue_model.specs.declared.cause.Cause.TheVariants.{Shape, Chain}
use Rattle.blue_model.specs.declared.indexes.TheConstants.{SUPERCLASS_INDEX, METHOD_DICTIONARY_INDEX, CLASS_SIZE, METHOD_ARRAY_INDEX, SELECTOR_START, DICTIONARY_SIZE}
use Rattle.blue_model.specs.declared.limits.TheConstants.{LONGEST_CHAIN}
use Rattle.blue_model.specs.Machine.{Machine, LogRow, Outcome, Go, Halt, Spent, Rule, after, then_do, ◌>>=◌, done, halt, given, pick, rows_at, looked, look, part}
use Rattle.blue_model.specs.Parts.{is_nil, shaped, size, field, code_of}
use Rattle.blue_model.specs.Lookup.{raised, place_in, first_slot, turned, turned_back, slot_in, slot_of, method_at, find_in, found_or, find_from, lookup}
use Rattle.blue_model.specs.ClassList.{part_in, classes_from, class_list, before_nil, slots_from, first_place, dictionary_of, selectors_of, place_of, method_of, taken_or, taken}

-- ---- rules that only look

-- where the rule answers, the machine is as before, and the answer is as Q says
pub record Answers (m : Machine) {A : Type 0} (Q : A → Type 0) (p : Rule A) : Type 0 where
  pub told : (a : A) (s : Machine) (log : List LogRow) → p m ≡ Go a s log → (s ≡ m) × Q a

pub answers_then : {m : Machine} {A B : Type 0} {Q : A → Type 0} {R : B → Type 0} {p : Rule A} (k : A → Rule B) → Answers m Q p → ((a : A) → Q a → Answers m R (k a)) → Answers m R (p >>= k)
unfolding ◌>>=◌
answers_then {m} {A} {B} {Q} {R} {p} k first f = record { told = λ b s log e. go (p m) refl b s log e }
  where
    go : (o : Outcome A) → p m ≡ o → (b : B) (s : Machine) (log : List LogRow) → then_do o k ≡ Go b s log → (s ≡ m) × R b
    go (Go a n rows) e b s log g = next (k a m) refl (subst (λ x. after rows (k a x) ≡ Go b s log) (first.told a n rows e).0 g)
      where
        next : (o : Outcome B) → k a m ≡ o → after rows o ≡ Go b s log → (s ≡ m) × R b
        next (Go c t lines) h i =
            let same : c ≡ b = cc in
            let left : t ≡ s = cc in
            let both = (f a (first.told a n rows e).1).told c t lines h in
            (sym left ∙ both.0, subst R same both.1)
        next (Halt c lines) h i = let no : ◌≡◌ {A = Outcome B} (Halt c (rows ++ lines)) (Go b s log) = i in absurd (cc)
        next (Spent lines) h i = let no : ◌≡◌ {A = Outcome B} (Spent (rows ++ lines)) (Go b s log) = i in absurd (cc)
    go (Halt c rows) e b s log g = let no : ◌≡◌ {A = Outcome B} (Halt c rows) (Go b s log) = g in absurd (cc)
    go (Spent rows) e b s log g = let no : ◌≡◌ {A = Outcome B} (Spent rows) (Go b s log) = g in absurd (cc)

pub answers_done : {m : Machine} {A : Type 0} {Q : A → Type 0} (a : A) → Q a → Answers m Q (done a)
unfolding done
answers_done {m} {A} {Q} a q = record { told = λ b s log e. go b s log e }
  where
    go : (b : A) (s : Machine) (log : List LogRow) → Go a m [] ≡ Go b s log → (s ≡ m) × Q b
    go b s log e = let same : a ≡ b = cc in let left : m ≡ s = cc in (sym left, subst Q same q)

pub answers_halt : {m : Machine} {A : Type 0} {Q : A → Type 0} (c : Cause) → Answers m Q (halt c)
unfolding halt
answers_halt {m} {A} {Q} c = record { told = λ b s log e. let no : ◌≡◌ {A = Outcome A} (Halt c []) (Go b s log) = e in absurd (cc) }

answers_pick : {m : Machine} {A : Type 0} {Q : A → Type 0} (b : Bool) (p q : Rule A) → (b ≡ true → Answers m Q p) → (b ≡ false → Answers m Q q) → Answers m Q (pick b p q)
unfolding pick
answers_pick true p q f g = f refl
answers_pick false p q f g = g refl

pub answers_look : {m : Machine} (v : Value) → Answers m (λ (o : Object). object_at m.heap v ≡ Some o) (look v)
unfolding look
answers_look {m} v = record { told = λ o s log e. go (object_at m.heap v) refl o s log e }
  where
    go : (x : Option Object) → object_at m.heap v ≡ x → (o : Object) (s : Machine) (log : List LogRow) → looked m v x ≡ Go o s log → (s ≡ m) × (object_at m.heap v ≡ Some o)
    go None e o s log f = let no : ◌≡◌ {A = Outcome Object} (Halt Shape (rows_at m v)) (Go o s log) = f in absurd (cc)
    go (Some x) e o s log f = let same : x ≡ o = cc in let left : m ≡ s = cc in (sym left, e ∙ ap (λ y. Some y) same)

answers_given : {m : Machine} {A : Type 0} (c : Cause) (x : Option A) → Answers m (λ a. x ≡ Some a) (given c x)
unfolding given
answers_given c None = answers_halt c
answers_given c (Some a) = answers_done a refl

answers_part : {m : Machine} {A : Type 0} (c : Cause) (f : Object → Option A) (v : Value) → Answers m (λ a. part_in m.heap f v ≡ Some a) (part c f v)
unfolding part
answers_part {m} {A} c f v = answers_then {Q = λ (o : Object). object_at m.heap v ≡ Some o} _ (answers_look v) (λ o e. weaken o e (answers_given c (f o)))
  where
    weaken : (o : Object) → object_at m.heap v ≡ Some o → Answers m (λ a. f o ≡ Some a) (given c (f o)) → Answers m (λ a. part_in m.heap f v ≡ Some a) (given c (f o))
    weaken o e h = record { told = λ a s log g. let both = h.told a s log g in (both.0, ap (λ x. option_and_then f x) e ∙ both.1) }

-- ---- slots

places_cut : (selector : ℕ) (vs : List Value) → place_in selector vs ≡ first_place selector (before_nil vs)
places_cut selector [] = refl
places_cut selector (v ∷ vs) = by (is_nil v) (places_cut selector vs)
  where
    by : (nil : Bool) → place_in selector vs ≡ first_place selector (before_nil vs) → (if nil then None else (if is_ref selector v then Some 0 else raised (place_in selector vs))) ≡ first_place selector (if nil then [] else v ∷ before_nil vs)
    by true e = refl
    by false e = ap (λ (x : Option ℕ). if is_ref selector v then Some 0 else raised x) e

-- the slot of the first place
abbrev slot_by : ℕ → List Value → Option ℕ → Option ℕ
slot_by selector selectors place = option_and_then (λ i. Some (turned_back (first_slot selector (length selectors)) (length selectors) i)) place

slots_cut : (selector : ℕ) (selectors : List Value) → slot_in selector selectors ≡ slot_by selector selectors (first_place selector (slots_from selector selectors))
slots_cut selector selectors = ap (slot_by selector selectors) (places_cut selector (turned (first_slot selector (length selectors)) selectors))

-- ---- one class

abbrev selectors_in : Object → Option (List Value)
selectors_in o = option_and_then (λ (values : List Value). Some (drop SELECTOR_START values)) (shaped DICTIONARY_SIZE o)

-- where a dictionary's slots are told, they are those of its selectors
told_slots : (selector : Value) (x : Option Object) (slot : Option ℕ) → option_and_then (slot_of selector) x ≡ Some slot → {G : Type 0} → ((selectors : List Value) → option_and_then selectors_in x ≡ Some selectors → slot ≡ slot_by (name_at selector) selectors (first_place (name_at selector) (slots_from (name_at selector) selectors)) → G) → G
unfolding slot_of
told_slots selector None slot e f = let no : ◌≡◌ {A = Option (Option ℕ)} None (Some slot) = e in absurd (cc)
told_slots selector (Some o) slot e {G} f = go (shaped DICTIONARY_SIZE o) refl e
  where
    go : (y : Option (List Value)) → shaped DICTIONARY_SIZE o ≡ y → option_and_then (λ (values : List Value). Some (slot_in (name_at selector) (drop SELECTOR_START values))) y ≡ Some slot → G
    go None g h = let no : ◌≡◌ {A = Option (Option ℕ)} None (Some slot) = h in absurd (cc)
    go (Some values) g h =
        let same : slot_in (name_at selector) (drop SELECTOR_START values) ≡ slot = cc in
        f (drop SELECTOR_START values) (ap (λ z. option_and_then (λ (vs : List Value). Some (drop SELECTOR_START vs)) z) g) (sym same ∙ slots_cut (name_at selector) (drop SELECTOR_START values))

abbrev or_else : Option Value → Option Value → Option Value
or_else None rest = rest
or_else (Some v) rest = Some v

-- the method in a class, or none, whatever the classes above it have
abbrev InClass : Machine → Value → Value → Option Value → Type 0
InClass m selector class found = (rest : Option Value) → or_else found rest ≡ taken_or rest (place_of m.heap selector class) (method_of m.heap selector class)

method_answers : {m : Machine} (selector class dictionary : Value) (slot : Option ℕ) → dictionary_of m.heap class ≡ Some dictionary → part_in m.heap (slot_of selector) dictionary ≡ Some slot → Answers m (InClass m selector class) (method_at dictionary slot)
unfolding method_at
method_answers {m} selector class dictionary slot d e = told_slots selector (object_at m.heap dictionary) slot e (λ selectors f g. go selectors (ap (option_and_then (part_in m.heap selectors_in)) d ∙ f) (first_place (name_at selector) (slots_from (name_at selector) selectors)) refl slot g)
  where
    go : (selectors : List Value) → selectors_of m.heap class ≡ Some selectors → (place : Option ℕ) → first_place (name_at selector) (slots_from (name_at selector) selectors) ≡ place → (slot : Option ℕ) → slot ≡ slot_by (name_at selector) selectors place → Answers m (InClass m selector class) (method_at dictionary slot)
    go selectors f None h slot g =
        let none : place_of m.heap selector class ≡ None = ap (option_and_then (λ (vs : List Value). first_place (name_at selector) (slots_from (name_at selector) vs))) f ∙ h in
        subst (λ x. Answers m (InClass m selector class) (method_at dictionary x)) (sym g) (answers_done None (λ rest. sym (ap (λ x. taken_or rest x (method_of m.heap selector class)) none)))
    go selectors f (Some place) h slot g =
        let n : ℕ = turned_back (first_slot (name_at selector) (length selectors)) (length selectors) place in
        let there : place_of m.heap selector class ≡ Some place = ap (option_and_then (λ (vs : List Value). first_place (name_at selector) (slots_from (name_at selector) vs))) f ∙ h in
        subst (λ x. Answers m (InClass m selector class) (method_at dictionary x)) (sym g) (
        answers_then _ (answers_part Shape (field DICTIONARY_SIZE METHOD_ARRAY_INDEX) dictionary) (λ methods a.
        answers_then _ (answers_part Shape (field 0 n) methods) (λ method b.
        answers_then _ (answers_part Shape code_of method) (λ code c.
        answers_done (Some method) (λ rest. sym (ap (λ x. taken_or rest x (method_of m.heap selector class)) there ∙ in_array selectors f place methods a method b))))))
      where
        in_array : (selectors : List Value) → selectors_of m.heap class ≡ Some selectors → (place : ℕ) → (methods : Value) → part_in m.heap (field DICTIONARY_SIZE METHOD_ARRAY_INDEX) dictionary ≡ Some methods → (method : Value) → part_in m.heap (field 0 (turned_back (first_slot (name_at selector) (length selectors)) (length selectors) place)) methods ≡ Some method → method_of m.heap selector class place ≡ Some method
        in_array selectors f place methods a method b =
            let n : ℕ = turned_back (first_slot (name_at selector) (length selectors)) (length selectors) place in
            ap (λ x. option_and_then (λ (vs : List Value). option_and_then (part_in m.heap (field 0 (turned_back (first_slot (name_at selector) (length vs)) (length vs) place))) (option_and_then (part_in m.heap (field DICTIONARY_SIZE METHOD_ARRAY_INDEX)) (dictionary_of m.heap class))) x) f
            ∙ ap (λ x. option_and_then (part_in m.heap (field 0 n)) (option_and_then (part_in m.heap (field DICTIONARY_SIZE METHOD_ARRAY_INDEX)) x)) d
            ∙ ap (option_and_then (part_in m.heap (field 0 n))) a
            ∙ b

find_in_answers : {m : Machine} (selector class : Value) → Answers m (InClass m selector class) (find_in selector class)
unfolding find_in
find_in_answers {m} selector class =
    answers_then _ (answers_part Shape (field CLASS_SIZE METHOD_DICTIONARY_INDEX) class) (λ dictionary d.
    answers_then _ (answers_part Shape (size DICTIONARY_SIZE) dictionary) (λ n z.
    answers_then _ (answers_look selector) (λ o l.
    answers_then _ (answers_part Shape (slot_of selector) dictionary) (λ slot e.
    method_answers selector class dictionary slot d e))))

-- ---- the chain

Chained : Machine → ℕ → Value → Value → Option Value → Type 0
Chained m n selector class found = found ≡ taken m.heap selector (class_list n m.heap class)

chain_answers : {m : Machine} (n : ℕ) (selector class : Value) → Answers m (Chained m n selector class) (find_from n selector class)
unfolding find_from Chained found_or
chain_answers {m} zero selector class = answers_pick (is_nil class) (done None) (halt Chain) (λ e. answers_done None refl) (λ e. answers_halt Chain)
chain_answers {m} (suc n) selector class = answers_pick (is_nil class) _ _ (λ e. answers_done None (sym (ap (taken m.heap selector) (listed true e)))) (λ e. answers_then _ (find_in_answers selector class) (λ found here. go found here (listed false e) (λ superclass. chain_answers n selector superclass)))
  where
    above : List Value
    above = classes_from (class_list n m.heap) (part_in m.heap (field CLASS_SIZE SUPERCLASS_INDEX) class)

    listed : (b : Bool) → is_nil class ≡ b → class_list (suc n) m.heap class ≡ (if b then [] else class ∷ above)
    listed b e = ap (λ x. if x then [] else class ∷ above) e

    go : (found : Option Value) → InClass m selector class found → class_list (suc n) m.heap class ≡ class ∷ above → ((superclass : Value) → Answers m (Chained m n selector superclass) (find_from n selector superclass)) → Answers m (Chained m (suc n) selector class) (found_or found (part Shape (field CLASS_SIZE SUPERCLASS_INDEX) class >>= λ superclass. find_from n selector superclass))
    go None here e f = answers_then _ (answers_part Shape (field CLASS_SIZE SUPERCLASS_INDEX) class) (λ superclass s. weaken superclass (sym (ap (taken m.heap selector) e ∙ sym (here (taken m.heap selector above)) ∙ ap (λ x. taken m.heap selector (classes_from (class_list n m.heap) x)) s)) (f superclass))
      where
        weaken : (superclass : Value) → taken m.heap selector (class_list n m.heap superclass) ≡ taken m.heap selector (class_list (suc n) m.heap class) → Answers m (Chained m n selector superclass) (find_from n selector superclass) → Answers m (Chained m (suc n) selector class) (find_from n selector superclass)
        weaken superclass same h = record { told = λ a s log g. let both = h.told a s log g in (both.0, both.1 ∙ same) }
    go (Some method) here e f = answers_done (Some method) (here (taken m.heap selector above) ∙ sym (ap (taken m.heap selector) e))

pub lookup_takes : (m s : Machine) (selector class : Value) (found : Option Value) (log : List LogRow) → lookup selector class m ≡ Go found s log → (s ≡ m) × (found ≡ taken m.heap selector (class_list LONGEST_CHAIN m.heap class))
unfolding Chained
lookup_takes m s selector class found log e = (chain_answers {m = m} LONGEST_CHAIN selector class).told found s log e
