-- What a rule takes out of an object, by the parts that a memory tells of it.
use Rattle.std.proofs.Common.{◌≡◌, ℕ, ℤ, suc, ◌+◌, ◌-◌, ◌<◌, ◌≤◌, if◌then◌else◌, nat_le, nat_lt, Bool, true, false, cond, List, [], ◌∷◌, length, get_or, Option, Some, None, Result, IsTrue, is_some, refl, sym, ◌∙◌, ap, arith}
use borrow.Author.Tests.{leb-true, le-leb, lt-ltb, ltb-true, ltb-false}
use Rattle.std.proofs.lemmas.Option.{slice_get_past, slice_get-get_or}
use Rattle.std.specs.List.{slice_get}
use Rattle.std.specs.Option.{option_and_then, option_map}
use Rattle.long_names.specs.declared.value.Value.{Value}
use Rattle.long_names.specs.declared.value.Value.TheVariants.{Int, Ref}
use Rattle.long_names.specs.declared.object.Body.{Body}
use Rattle.long_names.specs.declared.object.Body.TheVariants.{Pointers, Words, Bytes, Method}
use Rattle.long_names.specs.declared.object.Object.{Object}
use Rattle.long_names.specs.Objects.{int_of, field_of, pointers_of, literals_of, header_of, bytes_of, text_of}
use Rattle.long_names.specs.Heap.{Heap}
use Rattle.long_names.specs.State.{object_at, part_at, HasPart}
use Rattle.object_memory.specs.Told.{Told}
use Rattle.object_memory.specs.Shape.{HasPartAt, IsPartAt, IsTestAt, field_count, literals_count, number_in}
use Rattle.object_memory.proofs.Callers.{field_there}
use Rattle.blue_model.specs.declared.cause.Cause.TheVariants.{Shape}
use Rattle.blue_model.specs.declared.cpu.Cpu.{Cpu}
use Rattle.blue_model.specs.Machine.{◌>>=◌, given, part}
use Rattle.blue_model.specs.declared.indexes.TheConstants.{METHOD_INDEX, HOME_INDEX, TEMP_FRAME_START}
use Rattle.blue_model.specs.Parts.{at_least, shaped, size, field, number, heading, home_by, home_in, home_of, code_by, code_of, literal}
use Rattle.blue_model.specs.Messages.{last_literal, literal_before_last, extension}
use Rattle.contexts.specs.declared.stop.Stop.{Stop}
use Rattle.contexts.specs.Serves.{Serves}
use Rattle.contexts.proofs.ReadLaws.{part_steps}

-- ---- objects of pointers

-- the values of an object whose number of fields was found
pub record HasFields (h : Heap) (v : Value) (n : ℕ) : Type 0 where
  pub object : Object
  pub values : List Value
  pub at : object_at h v ≡ Some object
  pub is : pointers_of object.body ≡ Some values
  pub count : length values ≡ n

pub has_fields : (h : Heap) (v : Value) (n : ℕ) → part_at h v field_count ≡ Some n → HasFields h v n
has_fields h v n e = go (object_at h v) refl e
  where
    counted : (o : Object) (x : Option (List Value)) → object_at h v ≡ Some o → pointers_of o.body ≡ x → option_map length x ≡ Some n → HasFields h v n
    counted o None at is e = let no : ◌≡◌ {A = Option ℕ} None (Some n) = e in absurd (cc)
    counted o (Some xs) at is e = record { object = o; values = xs; at = at; is = is; count = cc }

    go : (x : Option Object) → object_at h v ≡ x → option_and_then (λ (o : Object). field_count o.body) x ≡ Some n → HasFields h v n
    go None at e = let no : ◌≡◌ {A = Option ℕ} None (Some n) = e in absurd (cc)
    go (Some o) at e = counted o (pointers_of o.body) at refl e

-- the number of the values of an object of pointers
counted : (h : Heap) (v : Value) (xs : List Value) → part_at h v pointers_of ≡ Some xs → part_at h v field_count ≡ Some (length xs)
counted h v xs e = go (object_at h v) e
  where
    go : (x : Option Object) → option_and_then (λ (o : Object). pointers_of o.body) x ≡ Some xs → option_and_then (λ (o : Object). field_count o.body) x ≡ Some (length xs)
    go None e = let no : ◌≡◌ {A = Option (List Value)} None (Some xs) = e in absurd (cc)
    go (Some o) e = ap (option_map length) e

enough : (least : ℕ) (xs : List Value) → least ≤ length xs → at_least least xs ≡ Some xs
enough least xs low = ap (λ b. cond b (Some xs) None) (le-leb least (length xs) low)

too_few : (least : ℕ) (xs : List Value) → length xs < least → at_least least xs ≡ None
too_few least xs few = go (nat_le least (length xs)) refl
  where
    go : (b : Bool) → nat_le least (length xs) ≡ b → cond b (Some xs) None ≡ None
    go true e = let low = leb-true least (length xs) e in absurd (omega arith)
    go false e = refl

-- What a rule takes out of the values of an object of pointers with at least so many, it takes out of the values that were found,
shaped_is : {A : Type 0} (h : Heap) (v : Value) (least n : ℕ) (g : Option (List Value) → Option A) → least ≤ n → (x : HasFields h v n) → option_and_then (λ (o : Object). g (shaped least o)) (object_at h v) ≡ g (Some x.values)
shaped_is {A} h v least n g low x =
    let within : least ≤ length x.values = omega (arith, x.count) in
    ap (option_and_then (λ (o : Object). g (shaped least o))) x.at ∙ ap (λ (y : Option (List Value)). g (option_and_then (at_least least) y)) x.is ∙ ap g (enough least x.values within)

-- and nothing, where there are too few,
shaped_few : {A : Type 0} (h : Heap) (v : Value) (least n : ℕ) (g : Option (List Value) → Option A) → g None ≡ None → n < least → HasFields h v n → option_and_then (λ (o : Object). g (shaped least o)) (object_at h v) ≡ None
shaped_few {A} h v least n g none few x =
    let short : length x.values < least = omega (arith, x.count) in
    ap (option_and_then (λ (o : Object). g (shaped least o))) x.at ∙ ap (λ (y : Option (List Value)). g (option_and_then (at_least least) y)) x.is ∙ ap g (too_few least x.values short) ∙ none

-- or where they lack it,
shaped_past : {A : Type 0} (h : Heap) (v : Value) (least n : ℕ) (g : Option (List Value) → Option A) → g None ≡ None → (x : HasFields h v n) → g (Some x.values) ≡ None → option_and_then (λ (o : Object). g (shaped least o)) (object_at h v) ≡ None
shaped_past {A} h v least n g none x past = ap (option_and_then (λ (o : Object). g (shaped least o))) x.at ∙ ap (λ (y : Option (List Value)). g (option_and_then (at_least least) y)) x.is ∙ go (nat_le least (length x.values))
  where
    go : (b : Bool) → g (cond b (Some x.values) None) ≡ None
    go true = past
    go false = none

-- or where the object isn't one of pointers.
shaped_none : {A : Type 0} (h : Heap) (v : Value) (least : ℕ) (g : Option (List Value) → Option A) → g None ≡ None → part_at h v field_count ≡ None → option_and_then (λ (o : Object). g (shaped least o)) (object_at h v) ≡ None
shaped_none {A} h v least g none e = go (object_at h v) e
  where
    values : (x : Option (List Value)) → option_map length x ≡ None → g (option_and_then (at_least least) x) ≡ None
    values None e = none
    values (Some xs) e = let no : ◌≡◌ {A = Option ℕ} (Some (length xs)) None = e in absurd (cc)

    go : (x : Option Object) → option_and_then (λ (o : Object). field_count o.body) x ≡ None → option_and_then (λ (o : Object). g (shaped least o)) x ≡ None
    go None e = refl
    go (Some o) e = values (pointers_of o.body) e

-- a field of the values that were found
pub field_found : (h : Heap) (v : Value) (n i : ℕ) → (x : HasFields h v n) → part_at h v (λ b. field_of b i) ≡ slice_get x.values i
field_found h v n i x = ap (option_and_then (λ (o : Object). field_of o.body i)) x.at ∙ of_body x.object.body x.values x.is
  where
    of_body : (b : Body) (xs : List Value) → pointers_of b ≡ Some xs → field_of b i ≡ slice_get xs i
    of_body (Pointers values) xs e = let same : values ≡ xs = cc in ap (λ (ys : List Value). slice_get ys i) same
    of_body (Words words) xs e = let no : ◌≡◌ {A = Option (List Value)} None (Some xs) = e in absurd (cc)
    of_body (Bytes bytes) xs e = let no : ◌≡◌ {A = Option (List Value)} None (Some xs) = e in absurd (cc)
    of_body (Method header literals code) xs e = let no : ◌≡◌ {A = Option (List Value)} None (Some xs) = e in absurd (cc)

no_value : (h : Heap) (v : Value) (n i : ℕ) → n ≤ i → (x : HasFields h v n) → slice_get x.values i ≡ None
no_value h v n i past x = let high : length x.values ≤ i = omega (arith, x.count) in slice_get_past x.values i high

-- What a rule takes of a list at an index is nothing where the list or the index is lacking.
lacking : {A X : Type 0} (h : Heap) (v : Value) (i : ℕ) (list : Body → Option (List X)) (g : Option (List X) → Option A) → g None ≡ None → ((xs : List X) → length xs ≤ i → g (Some xs) ≡ None) → (HasPart h v list (λ xs. i < length xs) → ⊥) → option_and_then (λ (o : Object). g (list o.body)) (object_at h v) ≡ None
lacking {A} {X} h v i list g none past lack = go (object_at h v) refl
  where
    at_index : (xs : List X) → part_at h v list ≡ Some xs → (b : Bool) → nat_lt i (length xs) ≡ b → g (Some xs) ≡ None
    at_index xs e true low = absurd (lack (xs, e, ltb-true i (length xs) low))
    at_index xs e false high = past xs (ltb-false i (length xs) high)

    of_list : (x : Option (List X)) → part_at h v list ≡ x → g x ≡ None
    of_list None e = none
    of_list (Some xs) e = at_index xs e (nat_lt i (length xs)) refl

    go : (x : Option Object) → object_at h v ≡ x → option_and_then (λ (o : Object). g (list o.body)) x ≡ None
    go None at = refl
    go (Some o) at = of_list (list o.body) (ap (option_and_then (λ (o : Object). list o.body)) at)

-- a test that wasn't passed
not_passed : {A : Type 0} {t : Told} {r : ℕ} {f : Body → Option A} {P : A → Type 0} {answer : Bool} → IsTestAt t r f P answer → answer ≡ false → IsTrue t.tells → HasPart t.heap (t.regs r) f P → ⊥
not_passed {A} {t} {r} {f} {P} {answer} test is told has = let yes = (test.there told).1 has in let no : ◌≡◌ {A = Bool} true false = sym yes ∙ is in absurd (cc)

-- an object that was tested to be none of bytes
pub text_none : {t : Told} {r : ℕ} {answer : Bool} → IsTestAt t r text_of (λ bytes. Unit {0}) answer → answer ≡ false → IsTrue t.tells → part_at t.heap (t.regs r) text_of ≡ None
text_none {t} {r} {answer} test is told = go (part_at t.heap (t.regs r) text_of) refl
  where
    go : (x : Option (List ℕ)) → part_at t.heap (t.regs r) text_of ≡ x → part_at t.heap (t.regs r) text_of ≡ None
    go None e = e
    go (Some bytes) e = absurd (not_passed test is told (bytes, e, tt))

-- an element of a list that was tested to have it,
pub element_there : {t : Told} {r : ℕ} (list : Body → Option (List ℕ)) (i : ℕ) → HasPartAt t r list (λ xs. i + 1 ≤ length xs) → IsTrue t.tells → (x : ℕ) × (part_at t.heap (t.regs r) (λ b. option_and_then (λ (xs : List ℕ). slice_get xs i) (list b)) ≡ Some x)
element_there {t} {r} list i known told = there t.heap (t.regs r) (known.there told)
  where
    there : (h : Heap) (v : Value) → HasPart h v list (λ xs. i + 1 ≤ length xs) → (x : ℕ) × (part_at h v (λ b. option_and_then (λ (xs : List ℕ). slice_get xs i) (list b)) ≡ Some x)
    there h v has = (get_or has.0 i 0, go (object_at h v) has.0 has.2 has.1)
      where
        go : (o : Option Object) (xs : List ℕ) → i + 1 ≤ length xs → option_and_then (λ (o : Object). list o.body) o ≡ Some xs → option_and_then (λ (o : Object). option_and_then (λ (xs : List ℕ). slice_get xs i) (list o.body)) o ≡ Some (get_or xs i 0)
        go None xs low e = let no : ◌≡◌ {A = Option (List ℕ)} None (Some xs) = e in absurd (cc)
        go (Some o) xs low e = ap (option_and_then (λ (xs : List ℕ). slice_get xs i)) e ∙ slice_get-get_or xs i 0 (omega arith)

-- and one of a list that was tested to lack it
pub element_none : {X : Type 0} {t : Told} {r : ℕ} {P : List X → Type 0} {answer : Bool} (list : Body → Option (List X)) (i : ℕ) → ((xs : List X) → i < length xs → P xs) → IsTestAt t r list P answer → answer ≡ false → IsTrue t.tells → part_at t.heap (t.regs r) (λ b. option_and_then (λ (xs : List X). slice_get xs i) (list b)) ≡ None
element_none {X} {t} {r} {P} {answer} list i within test is told = lacking t.heap (t.regs r) i list (option_and_then (λ (xs : List X). slice_get xs i)) refl (λ xs past. slice_get_past xs i past) (λ has. not_passed test is told (has.0, has.1, within has.0 has.2))

-- An object that was tested to have neither a value nor a literal i has no field i.
pub value_none : {t : Told} {r : ℕ} {some other : Bool} (i : ℕ) → IsTestAt t r pointers_of (λ xs. i < length xs) some → some ≡ false → IsTestAt t r literals_of (λ xs. i < length xs) other → other ≡ false → IsTrue t.tells → part_at t.heap (t.regs r) (λ b. field_of b i) ≡ None
value_none {t} {r} {some} {other} i values valueless literals without told = go (object_at t.heap (t.regs r)) (element_none pointers_of i (λ xs low. low) values valueless told) (element_none literals_of i (λ xs low. low) literals without told)
  where
    of_body : (b : Body) → option_and_then (λ (xs : List Value). slice_get xs i) (pointers_of b) ≡ None → option_and_then (λ (xs : List Value). slice_get xs i) (literals_of b) ≡ None → field_of b i ≡ None
    of_body (Pointers values) e f = e
    of_body (Words words) e f = refl
    of_body (Bytes bytes) e f = refl
    of_body (Method header literals code) e f = f

    go : (x : Option Object) → option_and_then (λ (o : Object). option_and_then (λ (xs : List Value). slice_get xs i) (pointers_of o.body)) x ≡ None → option_and_then (λ (o : Object). option_and_then (λ (xs : List Value). slice_get xs i) (literals_of o.body)) x ≡ None → option_and_then (λ (o : Object). field_of o.body i) x ≡ None
    go None e f = refl
    go (Some o) e f = of_body o.body e f

-- ---- sizes

pub size_is : {t : Told} {r : ℕ} {found : Option ℕ} (least n : ℕ) → IsPartAt t r field_count found → found ≡ Some n → least ≤ n → IsTrue t.tells → option_and_then (size least) (object_at t.heap (t.regs r)) ≡ Some n
unfolding size
size_is {t} {r} {found} least n is e low told = let x = has_fields t.heap (t.regs r) n (is.there told ∙ e) in shaped_is t.heap (t.regs r) least n (option_and_then (λ (values : List Value). Some (length values))) low x ∙ ap (λ k. Some k) x.count

pub size_few : {t : Told} {r : ℕ} {found : Option ℕ} (least n : ℕ) → IsPartAt t r field_count found → found ≡ Some n → n < least → IsTrue t.tells → option_and_then (size least) (object_at t.heap (t.regs r)) ≡ None
unfolding size
size_few {t} {r} {found} least n is e few told = shaped_few t.heap (t.regs r) least n (option_and_then (λ (values : List Value). Some (length values))) refl few (has_fields t.heap (t.regs r) n (is.there told ∙ e))

pub size_none : {t : Told} {r : ℕ} {found : Option ℕ} (least : ℕ) → IsPartAt t r field_count found → found ≡ None → IsTrue t.tells → option_and_then (size least) (object_at t.heap (t.regs r)) ≡ None
unfolding size
size_none {t} {r} {found} least is e told = shaped_none t.heap (t.regs r) least (option_and_then (λ (values : List Value). Some (length values))) refl (is.there told ∙ e)

-- ---- fields

pub field_is : {t : Told} {r : ℕ} {found : Option ℕ} (least i n : ℕ) → IsPartAt t r field_count found → found ≡ Some n → least ≤ n → IsTrue t.tells → option_and_then (field least i) (object_at t.heap (t.regs r)) ≡ part_at t.heap (t.regs r) (λ b. field_of b i)
unfolding field
field_is {t} {r} {found} least i n is e low told = let x = has_fields t.heap (t.regs r) n (is.there told ∙ e) in shaped_is t.heap (t.regs r) least n (option_and_then (λ (values : List Value). slice_get values i)) low x ∙ sym (field_found t.heap (t.regs r) n i x)

pub field_few : {t : Told} {r : ℕ} {found : Option ℕ} (least i n : ℕ) → IsPartAt t r field_count found → found ≡ Some n → n < least → IsTrue t.tells → option_and_then (field least i) (object_at t.heap (t.regs r)) ≡ None
unfolding field
field_few {t} {r} {found} least i n is e few told = shaped_few t.heap (t.regs r) least n (option_and_then (λ (values : List Value). slice_get values i)) refl few (has_fields t.heap (t.regs r) n (is.there told ∙ e))

pub field_past : {t : Told} {r : ℕ} {found : Option ℕ} (least i n : ℕ) → IsPartAt t r field_count found → found ≡ Some n → n ≤ i → IsTrue t.tells → option_and_then (field least i) (object_at t.heap (t.regs r)) ≡ None
unfolding field
field_past {t} {r} {found} least i n is e past told = (let x = has_fields t.heap (t.regs r) n (is.there told ∙ e) in shaped_past t.heap (t.regs r) least n (option_and_then (λ (values : List Value). slice_get values i)) refl x (no_value t.heap (t.regs r) n i past x))

pub field_none : {t : Told} {r : ℕ} {found : Option ℕ} (least i : ℕ) → IsPartAt t r field_count found → found ≡ None → IsTrue t.tells → option_and_then (field least i) (object_at t.heap (t.regs r)) ≡ None
unfolding field
field_none {t} {r} {found} least i is e told = shaped_none t.heap (t.regs r) least (option_and_then (λ (values : List Value). slice_get values i)) refl (is.there told ∙ e)

pub value_in : {t : Told} {r least : ℕ} (i : ℕ) → HasPartAt t r pointers_of (λ xs. (least ≤ length xs) × (i < length xs)) → HasPartAt t r pointers_of (λ xs. i < length xs)
value_in i known = record { name = known.name; there = λ told. (let it = known.there told in (it.0, it.1, it.2.1)) }

-- a field of an object of pointers that was tested to have it,
pub field_tested : {t : Told} {r : ℕ} (i : ℕ) → HasPartAt t r pointers_of (λ xs. i < length xs) → IsTrue t.tells → (v : Value) × (option_and_then (field 0 i) (object_at t.heap (t.regs r)) ≡ Some v) × (part_at t.heap (t.regs r) (λ b. field_of b i) ≡ Some v)
unfolding field
field_tested {t} {r} i known told =
    let has = known.there told in
    let value = (field_there t r i known).there told in
    let x = has_fields t.heap (t.regs r) (length has.0) (counted t.heap (t.regs r) has.0 has.1) in (
      value.0,
      shaped_is t.heap (t.regs r) 0 (length has.0) (option_and_then (λ (values : List Value). slice_get values i)) (omega arith) x ∙ sym (field_found t.heap (t.regs r) (length has.0) i x) ∙ value.1,
      value.1,
    )

-- with at least so many fields,
pub field_in : {t : Told} {r : ℕ} (least i : ℕ) → HasPartAt t r pointers_of (λ xs. (least ≤ length xs) × (i < length xs)) → IsTrue t.tells → (v : Value) × (option_and_then (field least i) (object_at t.heap (t.regs r)) ≡ Some v) × (part_at t.heap (t.regs r) (λ b. field_of b i) ≡ Some v)
unfolding field
field_in {t} {r} least i known told =
    let has = known.there told in
    let value = (field_there t r i (value_in i known)).there told in
    let x = has_fields t.heap (t.regs r) (length has.0) (counted t.heap (t.regs r) has.0 has.1) in (
      value.0,
      shaped_is t.heap (t.regs r) least (length has.0) (option_and_then (λ (values : List Value). slice_get values i)) has.2.0 x ∙ sym (field_found t.heap (t.regs r) (length has.0) i x) ∙ value.1,
      value.1,
    )

-- where the number of fields was found,
pub sized_both : {t : Told} {r len : ℕ} (least i : ℕ) → least ≤ len → i < len → HasPartAt t r pointers_of (λ xs. length xs ≡ len) → HasPartAt t r pointers_of (λ xs. (least ≤ length xs) × (i < length xs))
sized_both {t} {r} {len} least i low within known = record { name = known.name; there = λ told. (let it = known.there told in let long = it.2 in (it.0, it.1, ((omega arith), (omega arith)))) }

pub sized_least : {t : Told} {r len : ℕ} (least : ℕ) → least ≤ len → HasPartAt t r pointers_of (λ xs. length xs ≡ len) → HasPartAt t r pointers_of (λ xs. least ≤ length xs)
sized_least {t} {r} {len} least low known = record { name = known.name; there = λ told. (let it = known.there told in let long = it.2 in (it.0, it.1, (omega arith))) }

pub sized_more : {t : Told} {r : ℕ} (least i : ℕ) → i < least → HasPartAt t r pointers_of (λ xs. least ≤ length xs) → HasPartAt t r pointers_of (λ xs. i < length xs)
sized_more {t} {r} least i low known = record { name = known.name; there = λ told. (let it = known.there told in let long = it.2 in (it.0, it.1, (omega arith))) }

-- the number of fields, as what was found
sized_part : {t : Told} {r : ℕ} (P : List Value → Type 0) (known : HasPartAt t r pointers_of P) (told : IsTrue t.tells) → IsPartAt t r field_count (Some (length (known.there told).0))
sized_part {t} {r} P known told = record { name = λ found. known.name; there = λ now. (let it = known.there told in counted t.heap (t.regs r) it.0 it.1) }

-- no field is past them
pub field_beyond : {t : Told} {r : ℕ} (len i : ℕ) → HasPartAt t r pointers_of (λ xs. length xs ≡ len) → len ≤ i → IsTrue t.tells → option_and_then (field 0 i) (object_at t.heap (t.regs r)) ≡ None
field_beyond {t} {r} len i known past told =
    let it = known.there told in
    let long = it.2 in
    field_past 0 i (length it.0) (sized_part (λ xs. length xs ≡ len) known told) refl (omega arith) told

-- or whose length was found,
pub sized_within : {t : Told} {r : ℕ} (len i : ℕ) → i < len → HasPartAt t r pointers_of (λ xs. length xs ≡ len) → HasPartAt t r pointers_of (λ xs. i < length xs)
sized_within {t} {r} len i low known = record { name = known.name; there = λ told. (let it = known.there told in let long = it.2 in (it.0, it.1, (omega arith))) }

-- or to lack it
pub field_lacking : {t : Told} {r : ℕ} {answer : Bool} (i : ℕ) → IsTestAt t r pointers_of (λ xs. i < length xs) answer → answer ≡ false → IsTrue t.tells → option_and_then (field 0 i) (object_at t.heap (t.regs r)) ≡ None
unfolding field
field_lacking {t} {r} {answer} i test is told =
    lacking t.heap (t.regs r) i pointers_of (λ x. option_and_then (λ (values : List Value). slice_get values i) (option_and_then (at_least 0) x)) refl (λ xs past. ap (option_and_then (λ (values : List Value). slice_get values i)) (enough 0 xs (omega arith)) ∙ slice_get_past xs i past) (not_passed test is told)

-- ---- numbers in fields

-- the number that a field holds is the number that its value is
abbrev number_of : ℕ → Option (List Value) → Option ℤ
number_of i x = option_and_then int_of (option_and_then (λ (values : List Value). slice_get values i) x)

-- the number that a field of the values that were found is
number_there : (h : Heap) (v : Value) (n i : ℕ) (x : HasFields h v n) → part_at h v (number_in i) ≡ number_of i (Some x.values)
number_there h v n i x = ap (option_and_then (λ (o : Object). number_in i o.body)) x.at ∙ ap (number_of i) x.is

pub number_by : {old new : Told} {cpu now : Cpu} {answer : Result ℤ Stop} (least i : ℕ) (v : Value) → Serves old cpu new now (part Shape (field least i) v >>= (λ x. given Shape (int_of x))) answer → Serves old cpu new now (part Shape (number least i) v) answer
unfolding number field
number_by {old} {new} {cpu} {now} {answer} least i v s = part_steps Shape (λ o. option_and_then (λ (values : List Value). slice_get values i) (shaped least o)) int_of v s

-- where the number of values was found, the number in a field is that of the body,
pub number_is : {t : Told} {r : ℕ} {found : Option ℕ} (least i n : ℕ) → IsPartAt t r field_count found → found ≡ Some n → least ≤ n → IsTrue t.tells → option_and_then (number least i) (object_at t.heap (t.regs r)) ≡ part_at t.heap (t.regs r) (number_in i)
unfolding number
number_is {t} {r} {found} least i n is e low told =
    let x = has_fields t.heap (t.regs r) n (is.there told ∙ e) in
    shaped_is t.heap (t.regs r) least n (number_of i) low x ∙ sym (number_there t.heap (t.regs r) n i x)

-- also where it was tested to have the field;
pub number_tested : {t : Told} {r : ℕ} (least i : ℕ) → HasPartAt t r pointers_of (λ xs. (least ≤ length xs) × (i < length xs)) → IsTrue t.tells → option_and_then (number least i) (object_at t.heap (t.regs r)) ≡ part_at t.heap (t.regs r) (number_in i)
unfolding number
number_tested {t} {r} least i known told =
    let has = known.there told in
    let x = has_fields t.heap (t.regs r) (length has.0) (counted t.heap (t.regs r) has.0 has.1) in
    shaped_is t.heap (t.regs r) least (length has.0) (number_of i) has.2.0 x ∙ sym (number_there t.heap (t.regs r) (length has.0) i x)

-- and where there is one, the field holds it
pub number_held : (least i : ℕ) (z : ℤ) (x : Option Object) → option_and_then (number least i) x ≡ Some z → option_and_then (field least i) x ≡ Some (Int z)
unfolding number field
number_held least i z None e = let no : ◌≡◌ {A = Option ℤ} None (Some z) = e in absurd (cc)
number_held least i z (Some o) e = go (option_and_then (λ (values : List Value). slice_get values i) (shaped least o)) e
  where
    go : (v : Option Value) → option_and_then int_of v ≡ Some z → v ≡ Some (Int z)
    go None e = let no : ◌≡◌ {A = Option ℤ} None (Some z) = e in absurd (cc)
    go (Some (Int y)) e = let same : y ≡ z = cc in ap (λ x. Some (Int x)) same
    go (Some (Ref n)) e = let no : ◌≡◌ {A = Option ℤ} None (Some z) = e in absurd (cc)

-- ---- homes

-- the home by the values that there may be
abbrev home_here : Value → Option (List Value) → Option Value
home_here context x = option_and_then (home_in context) x

pub home_is : {t : Told} {r : ℕ} {found : Option ℕ} (context : Value) (n : ℕ) → IsPartAt t r field_count found → found ≡ Some n → TEMP_FRAME_START ≤ n → IsTrue t.tells → option_and_then (home_of context) (object_at t.heap (t.regs r)) ≡ home_by context (part_at t.heap (t.regs r) (λ b. field_of b METHOD_INDEX)) (part_at t.heap (t.regs r) (λ b. field_of b HOME_INDEX))
unfolding home_of
home_is {t} {r} {found} context n is e low told =
    let x = has_fields t.heap (t.regs r) n (is.there told ∙ e) in
    shaped_is t.heap (t.regs r) TEMP_FRAME_START n (home_here context) low x
    ∙ ap (λ (y : Option Value). home_by context y (slice_get x.values HOME_INDEX)) (sym (field_found t.heap (t.regs r) n METHOD_INDEX x))
    ∙ ap (λ (y : Option Value). home_by context (part_at t.heap (t.regs r) (λ b. field_of b METHOD_INDEX)) y) (sym (field_found t.heap (t.regs r) n HOME_INDEX x))

-- of a context that was tested to have the fields of one
pub home_tested : {t : Told} {r : ℕ} (context : Value) → HasPartAt t r pointers_of (λ xs. TEMP_FRAME_START ≤ length xs) → IsTrue t.tells → option_and_then (home_of context) (object_at t.heap (t.regs r)) ≡ home_by context (part_at t.heap (t.regs r) (λ b. field_of b METHOD_INDEX)) (part_at t.heap (t.regs r) (λ b. field_of b HOME_INDEX))
home_tested {t} {r} context known told = home_is context (length (known.there told).0) (sized_part (λ xs. TEMP_FRAME_START ≤ length xs) known told) refl (known.there told).2 told

pub home_few : {t : Told} {r : ℕ} {found : Option ℕ} (context : Value) (n : ℕ) → IsPartAt t r field_count found → found ≡ Some n → n < TEMP_FRAME_START → IsTrue t.tells → option_and_then (home_of context) (object_at t.heap (t.regs r)) ≡ None
unfolding home_of
home_few {t} {r} {found} context n is e few told = shaped_few t.heap (t.regs r) TEMP_FRAME_START n (home_here context) refl few (has_fields t.heap (t.regs r) n (is.there told ∙ e))

pub home_none : {t : Told} {r : ℕ} {found : Option ℕ} (context : Value) → IsPartAt t r field_count found → found ≡ None → IsTrue t.tells → option_and_then (home_of context) (object_at t.heap (t.regs r)) ≡ None
unfolding home_of
home_none {t} {r} {found} context is e told = shaped_none t.heap (t.regs r) TEMP_FRAME_START (home_here context) refl (is.there told ∙ e)

-- a block's context, whose field 3 is a number,
pub home_of_block : (context v : Value) (fifth : Option Value) → is_some (int_of v) ≡ true → home_by context (Some v) fifth ≡ fifth
home_of_block context (Int z) fifth e = refl
home_of_block context (Ref n) fifth e = let no : ◌≡◌ {A = Bool} false true = e in absurd (cc)

-- and a method's
pub home_of_method : (context v : Value) (fifth : Option Value) → is_some (int_of v) ≡ false → home_by context (Some v) fifth ≡ Some context
home_of_method context (Int z) fifth e = let no : ◌≡◌ {A = Bool} true false = e in absurd (cc)
home_of_method context (Ref n) fifth e = refl

-- ---- methods

-- a literal is what a memory has as a field of a method,
pub literal_is : {t : Told} {r : ℕ} {P : List Value → Type 0} (i : ℕ) → HasPartAt t r literals_of P → IsTrue t.tells → option_and_then (literal i) (object_at t.heap (t.regs r)) ≡ part_at t.heap (t.regs r) (λ b. field_of b i)
unfolding literal
literal_is {t} {r} {P} i known told = go (object_at t.heap (t.regs r)) (known.there told).0 (known.there told).1
  where
    of_body : (b : Body) (xs : List Value) → literals_of b ≡ Some xs → option_and_then (λ (xs : List Value). slice_get xs i) (literals_of b) ≡ field_of b i
    of_body (Pointers values) xs e = let no : ◌≡◌ {A = Option (List Value)} None (Some xs) = e in absurd (cc)
    of_body (Words words) xs e = let no : ◌≡◌ {A = Option (List Value)} None (Some xs) = e in absurd (cc)
    of_body (Bytes bytes) xs e = let no : ◌≡◌ {A = Option (List Value)} None (Some xs) = e in absurd (cc)
    of_body (Method header literals code) xs e = refl

    go : (x : Option Object) (xs : List Value) → option_and_then (λ (o : Object). literals_of o.body) x ≡ Some xs → option_and_then (λ (o : Object). option_and_then (λ (xs : List Value). slice_get xs i) (literals_of o.body)) x ≡ option_and_then (λ (o : Object). field_of o.body i) x
    go None xs e = refl
    go (Some o) xs e = of_body o.body xs e

-- where there is one.
pub literal_none : {t : Told} {r : ℕ} {answer : Bool} (i : ℕ) → IsTestAt t r literals_of (λ xs. i < length xs) answer → answer ≡ false → IsTrue t.tells → option_and_then (literal i) (object_at t.heap (t.regs r)) ≡ None
unfolding literal
literal_none {t} {r} {answer} i test is told = lacking t.heap (t.regs r) i literals_of (option_and_then (λ (xs : List Value). slice_get xs i)) refl (λ xs past. slice_get_past xs i past) (not_passed test is told)

-- a method, whose literals were counted, has code,
pub code_is : {t : Told} {r : ℕ} {found : Option ℕ} (n : ℕ) → IsPartAt t r literals_count found → found ≡ Some n → IsTrue t.tells → (code : List ℕ) × (option_and_then code_of (object_at t.heap (t.regs r)) ≡ Some (record { literals = n; bytes = code })) × (part_at t.heap (t.regs r) bytes_of ≡ Some code)
unfolding code_of
code_is {t} {r} {found} n is e told = go (object_at t.heap (t.regs r)) (is.there told ∙ e)
  where
    of_body : (b : Body) → literals_count b ≡ Some n → (code : List ℕ) × (option_and_then (code_by (bytes_of b)) (literals_of b) ≡ Some (record { literals = n; bytes = code })) × (bytes_of b ≡ Some code)
    of_body (Pointers values) e = let no : ◌≡◌ {A = Option ℕ} None (Some n) = e in absurd (cc)
    of_body (Words words) e = let no : ◌≡◌ {A = Option ℕ} None (Some n) = e in absurd (cc)
    of_body (Bytes bytes) e = let no : ◌≡◌ {A = Option ℕ} None (Some n) = e in absurd (cc)
    of_body (Method header literals code) e = let same : length literals ≡ n = cc in (code, ap (λ k. Some (record { literals = k; bytes = code })) same, refl)

    go : (x : Option Object) → option_and_then (λ (o : Object). literals_count o.body) x ≡ Some n → (code : List ℕ) × (option_and_then (λ (o : Object). option_and_then (code_by (bytes_of o.body)) (literals_of o.body)) x ≡ Some (record { literals = n; bytes = code })) × (option_and_then (λ (o : Object). bytes_of o.body) x ≡ Some code)
    go None e = let no : ◌≡◌ {A = Option ℕ} None (Some n) = e in absurd (cc)
    go (Some o) e = of_body o.body e

-- and nothing else has.
pub code_none : {t : Told} {r : ℕ} {found : Option ℕ} → IsPartAt t r literals_count found → found ≡ None → IsTrue t.tells → option_and_then code_of (object_at t.heap (t.regs r)) ≡ None
unfolding code_of
code_none {t} {r} {found} is e told = go (object_at t.heap (t.regs r)) (is.there told ∙ e)
  where
    of_body : (b : Body) → literals_count b ≡ None → option_and_then (code_by (bytes_of b)) (literals_of b) ≡ None
    of_body (Pointers values) e = refl
    of_body (Words words) e = refl
    of_body (Bytes bytes) e = refl
    of_body (Method header literals code) e = let no : ◌≡◌ {A = Option ℕ} (Some (length literals)) None = e in absurd (cc)

    go : (x : Option Object) → option_and_then (λ (o : Object). literals_count o.body) x ≡ None → option_and_then (λ (o : Object). option_and_then (code_by (bytes_of o.body)) (literals_of o.body)) x ≡ None
    go None e = refl
    go (Some o) e = of_body o.body e

-- A method's header is what a memory tells of it,
pub heading_is : (t : Told) (r : ℕ) → IsTrue t.tells → option_and_then heading (object_at t.heap (t.regs r)) ≡ part_at t.heap (t.regs r) header_of
unfolding heading
heading_is t r told = refl

-- and what is no method has none.
pub heading_none : {t : Told} {r : ℕ} {found : Option ℕ} → IsPartAt t r literals_count found → found ≡ None → IsTrue t.tells → option_and_then heading (object_at t.heap (t.regs r)) ≡ None
unfolding heading
heading_none {t} {r} {found} is e told = go (object_at t.heap (t.regs r)) (is.there told ∙ e)
  where
    of_body : (b : Body) → literals_count b ≡ None → header_of b ≡ None
    of_body (Pointers values) e = refl
    of_body (Words words) e = refl
    of_body (Bytes bytes) e = refl
    of_body (Method header literals code) e = let no : ◌≡◌ {A = Option ℕ} (Some (length literals)) None = e in absurd (cc)

    go : (x : Option Object) → option_and_then (λ (o : Object). literals_count o.body) x ≡ None → option_and_then (λ (o : Object). header_of o.body) x ≡ None
    go None e = refl
    go (Some o) e = of_body o.body e

-- The last literals of a method are fields of it.
pub last_is : {t : Told} {r : ℕ} {found : Option ℕ} (n : ℕ) → IsPartAt t r literals_count found → found ≡ Some n → IsTrue t.tells → option_and_then last_literal (object_at t.heap (t.regs r)) ≡ part_at t.heap (t.regs r) (λ b. field_of b (n - 1))
unfolding last_literal
last_is {t} {r} {found} n is e told = go (object_at t.heap (t.regs r)) (is.there told ∙ e)
  where
    of_body : (b : Body) → literals_count b ≡ Some n → option_and_then (λ (literals : List Value). slice_get literals (length literals - 1)) (literals_of b) ≡ field_of b (n - 1)
    of_body (Pointers values) e = let no : ◌≡◌ {A = Option ℕ} None (Some n) = e in absurd (cc)
    of_body (Words words) e = let no : ◌≡◌ {A = Option ℕ} None (Some n) = e in absurd (cc)
    of_body (Bytes bytes) e = let no : ◌≡◌ {A = Option ℕ} None (Some n) = e in absurd (cc)
    of_body (Method header literals code) e = let same : length literals ≡ n = cc in ap (λ k. slice_get literals (k - 1)) same

    go : (x : Option Object) → option_and_then (λ (o : Object). literals_count o.body) x ≡ Some n → option_and_then (λ (o : Object). option_and_then (λ (literals : List Value). slice_get literals (length literals - 1)) (literals_of o.body)) x ≡ option_and_then (λ (o : Object). field_of o.body (n - 1)) x
    go None e = let no : ◌≡◌ {A = Option ℕ} None (Some n) = e in absurd (cc)
    go (Some o) e = of_body o.body e

pub last_few : {t : Told} {r : ℕ} {found : Option ℕ} (n : ℕ) → IsPartAt t r literals_count found → found ≡ Some n → n < 1 → IsTrue t.tells → option_and_then last_literal (object_at t.heap (t.regs r)) ≡ None
unfolding last_literal
last_few {t} {r} {found} n is e few told = go (object_at t.heap (t.regs r)) (is.there told ∙ e)
  where
    none : (literals : List Value) → length literals ≡ n → slice_get literals (length literals - 1) ≡ None
    none [] e = refl
    none (v ∷ vs) e = let many : suc (length vs) ≡ n = e in absurd (omega arith)

    of_body : (b : Body) → literals_count b ≡ Some n → option_and_then (λ (literals : List Value). slice_get literals (length literals - 1)) (literals_of b) ≡ None
    of_body (Pointers values) e = refl
    of_body (Words words) e = refl
    of_body (Bytes bytes) e = refl
    of_body (Method header literals code) e = let same : length literals ≡ n = cc in none literals same

    go : (x : Option Object) → option_and_then (λ (o : Object). literals_count o.body) x ≡ Some n → option_and_then (λ (o : Object). option_and_then (λ (literals : List Value). slice_get literals (length literals - 1)) (literals_of o.body)) x ≡ None
    go None e = refl
    go (Some o) e = of_body o.body e

pub last_none : {t : Told} {r : ℕ} {found : Option ℕ} → IsPartAt t r literals_count found → found ≡ None → IsTrue t.tells → option_and_then last_literal (object_at t.heap (t.regs r)) ≡ None
unfolding last_literal
last_none {t} {r} {found} is e told = go (object_at t.heap (t.regs r)) (is.there told ∙ e)
  where
    of_body : (b : Body) → literals_count b ≡ None → option_and_then (λ (literals : List Value). slice_get literals (length literals - 1)) (literals_of b) ≡ None
    of_body (Pointers values) e = refl
    of_body (Words words) e = refl
    of_body (Bytes bytes) e = refl
    of_body (Method header literals code) e = let no : ◌≡◌ {A = Option ℕ} (Some (length literals)) None = e in absurd (cc)

    go : (x : Option Object) → option_and_then (λ (o : Object). literals_count o.body) x ≡ None → option_and_then (λ (o : Object). option_and_then (λ (literals : List Value). slice_get literals (length literals - 1)) (literals_of o.body)) x ≡ None
    go None e = refl
    go (Some o) e = of_body o.body e

abbrev before_last : List Value → Option Value
before_last literals = if nat_lt 1 (length literals) then slice_get literals (length literals - 2) else None

pub before_last_is : {t : Told} {r : ℕ} {found : Option ℕ} (n : ℕ) → IsPartAt t r literals_count found → found ≡ Some n → 2 ≤ n → IsTrue t.tells → option_and_then literal_before_last (object_at t.heap (t.regs r)) ≡ part_at t.heap (t.regs r) (λ b. field_of b (n - 2))
unfolding literal_before_last
before_last_is {t} {r} {found} n is e many told = go (object_at t.heap (t.regs r)) (is.there told ∙ e)
  where
    some : (literals : List Value) → length literals ≡ n → before_last literals ≡ slice_get literals (n - 2)
    some literals same =
        let low : 1 < length literals = omega (arith, same, many) in
        ap (λ b. cond b (slice_get literals (length literals - 2)) None) (lt-ltb 1 (length literals) low) ∙ ap (λ k. slice_get literals (k - 2)) same

    of_body : (b : Body) → literals_count b ≡ Some n → option_and_then before_last (literals_of b) ≡ field_of b (n - 2)
    of_body (Pointers values) e = let no : ◌≡◌ {A = Option ℕ} None (Some n) = e in absurd (cc)
    of_body (Words words) e = let no : ◌≡◌ {A = Option ℕ} None (Some n) = e in absurd (cc)
    of_body (Bytes bytes) e = let no : ◌≡◌ {A = Option ℕ} None (Some n) = e in absurd (cc)
    of_body (Method header literals code) e = let same : length literals ≡ n = cc in some literals same

    go : (x : Option Object) → option_and_then (λ (o : Object). literals_count o.body) x ≡ Some n → option_and_then (λ (o : Object). option_and_then before_last (literals_of o.body)) x ≡ option_and_then (λ (o : Object). field_of o.body (n - 2)) x
    go None e = let no : ◌≡◌ {A = Option ℕ} None (Some n) = e in absurd (cc)
    go (Some o) e = of_body o.body e

pub before_last_few : {t : Told} {r : ℕ} {found : Option ℕ} (n : ℕ) → IsPartAt t r literals_count found → found ≡ Some n → n < 2 → IsTrue t.tells → option_and_then literal_before_last (object_at t.heap (t.regs r)) ≡ None
unfolding literal_before_last
before_last_few {t} {r} {found} n is e few told = go (object_at t.heap (t.regs r)) (is.there told ∙ e)
  where
    none : (literals : List Value) → length literals ≡ n → before_last literals ≡ None
    none [] e = refl
    none (v ∷ []) e = refl
    none (v ∷ (w ∷ vs)) e = let many : suc (suc (length vs)) ≡ n = e in absurd (omega arith)

    of_body : (b : Body) → literals_count b ≡ Some n → option_and_then before_last (literals_of b) ≡ None
    of_body (Pointers values) e = refl
    of_body (Words words) e = refl
    of_body (Bytes bytes) e = refl
    of_body (Method header literals code) e = let same : length literals ≡ n = cc in none literals same

    go : (x : Option Object) → option_and_then (λ (o : Object). literals_count o.body) x ≡ Some n → option_and_then (λ (o : Object). option_and_then before_last (literals_of o.body)) x ≡ None
    go None e = refl
    go (Some o) e = of_body o.body e

pub before_last_none : {t : Told} {r : ℕ} {found : Option ℕ} → IsPartAt t r literals_count found → found ≡ None → IsTrue t.tells → option_and_then literal_before_last (object_at t.heap (t.regs r)) ≡ None
unfolding literal_before_last
before_last_none {t} {r} {found} is e told = go (object_at t.heap (t.regs r)) (is.there told ∙ e)
  where
    of_body : (b : Body) → literals_count b ≡ None → option_and_then before_last (literals_of b) ≡ None
    of_body (Pointers values) e = refl
    of_body (Words words) e = refl
    of_body (Bytes bytes) e = refl
    of_body (Method header literals code) e = let no : ◌≡◌ {A = Option ℕ} (Some (length literals)) None = e in absurd (cc)

    go : (x : Option Object) → option_and_then (λ (o : Object). literals_count o.body) x ≡ None → option_and_then (λ (o : Object). option_and_then before_last (literals_of o.body)) x ≡ None
    go None e = refl
    go (Some o) e = of_body o.body e

-- A header extension is the number that the literal before the last is.
pub extension_by : {old new : Told} {cpu now : Cpu} {answer : Result ℤ Stop} (v : Value) → Serves old cpu new now (part Shape literal_before_last v >>= (λ x. given Shape (int_of x))) answer → Serves old cpu new now (part Shape extension v) answer
unfolding extension
extension_by v s = part_steps Shape literal_before_last int_of v s
