-- What reads tell of the object that a register names, and what follows from its kind and length.
use Rattle.std.proofs.lemmas.Int.{to_z-of_z}
use mir.Val.{SFits, of_z, to_z}
use mir.Syntax.{w16}
use Rattle.std.proofs.Common.{◌≡◌, ℕ, ℤ, pos, negsuc, ◌↔◌, Bool, false, List, [], length, Option, Some, None, IsTrue, is_some, refl, sym, ◌∙◌, ap, subst, arith}
use Rattle.std.specs.Option.{option_and_then, option_map}
use Rattle.long_names.specs.declared.value.Value.{Value}
use Rattle.long_names.specs.declared.value.Value.TheVariants.{Int, Ref}
use Rattle.long_names.specs.declared.object.Kind.{Kind}
use Rattle.long_names.specs.declared.object.Kind.TheVariants as kind
use Rattle.long_names.specs.declared.object.Body.{Body}
use Rattle.long_names.specs.declared.object.Body.TheVariants.{Pointers, Words, Bytes, Method}
use Rattle.long_names.specs.declared.object.Object.{Object}
use Rattle.long_names.specs.Words.{IsSmallInteger}
use Rattle.long_names.specs.Objects.{int_of, kind_of, len_of, fields_of, literals_of, text_of}
use Rattle.long_names.specs.Heap.{Heap}
use Rattle.long_names.specs.State.{IsRef, object_at, part_at, HasPart}
use Rattle.long_names.specs.Access.{Answer, OfKind, OfNumber, OfSigned, answered}
use Rattle.object_memory.specs.Told.{Told, IsReady}
use Rattle.object_memory.specs.Shape.{HasPartAt, IsPartAt, IsTestAt, FindsPart, TestsPart, Looks, shape_of, literals_count}
use Rattle.object_memory.proofs.LooksLaws.{found_looked}

-- ---- answers

pub kind_answer : (x : Option Kind) (k : Kind) → answered OfKind x ≡ Some (OfKind k) → x ≡ Some k
kind_answer None k e = let no : ◌≡◌ {A = Option Answer} None (Some (OfKind k)) = e in cc
kind_answer (Some a) k e = cc

pub number_answer : (x : Option ℕ) (n : ℕ) → answered OfNumber x ≡ Some (OfNumber n) → x ≡ Some n
number_answer None n e = let no : ◌≡◌ {A = Option Answer} None (Some (OfNumber n)) = e in cc
number_answer (Some a) n e = cc

pub signed_answer : (x : Option ℤ) (z : ℤ) → answered OfSigned x ≡ Some (OfSigned z) → x ≡ Some z
signed_answer None z e = let no : ◌≡◌ {A = Option Answer} None (Some (OfSigned z)) = e in cc
signed_answer (Some a) z e = cc

-- ---- what was found

-- a part that was found, and is there after reads
pub finds_part : {A : Type 0} (old new : Told) (r : ℕ) (f : Body → Option A) (x : A) → IsReady new → Looks [] old new → IsRef (old.regs r) → (IsTrue old.tells → part_at old.heap (old.regs r) f ≡ Some x) → FindsPart old new r f (Some x)
finds_part {A} old new r f x ready l ref is =
    let before : IsPartAt old r f (Some x) = record { name = λ some. ref; there = is } in
    record { before = before; after = found_looked [] old new r f (Some x) ready l refl before }

-- kind and length
pub shape_there : (h : Heap) (v : Value) (k : Kind) (n : ℕ) → part_at h v (λ b. Some (kind_of b)) ≡ Some k → part_at h v (λ b. Some (len_of b)) ≡ Some n → part_at h v shape_of ≡ Some (k, n)
shape_there h v k n e f = go (object_at h v) e f
  where
    go : (x : Option Object) → option_and_then (λ (o : Object). Some (kind_of o.body)) x ≡ Some k → option_and_then (λ (o : Object). Some (len_of o.body)) x ≡ Some n → option_and_then (λ (o : Object). shape_of o.body) x ≡ Some (k, n)
    go None e f = let no : ◌≡◌ {A = Option Kind} None (Some k) = e in cc
    go (Some o) e f = (let a : kind_of o.body ≡ k = cc in let b : len_of o.body ≡ n = cc in ap (λ x. Some (x, len_of o.body)) a ∙ ap (λ x. Some (k, x)) b)

-- ---- tests

-- a part that has so many elements
pub has_counted : {X : Type 0} (h : Heap) (v : Value) (part : Body → Option (List X)) (n : ℕ) (P : ℕ → Type 0) → part_at h v (λ b. option_map length (part b)) ≡ Some n → P n → HasPart h v part (λ xs. P (length xs))
has_counted {X} h v part n P e p = go (object_at h v) e
  where
    listed : (y : Option (List X)) → option_map length y ≡ Some n → (xs : List X) × (y ≡ Some xs) × P (length xs)
    listed None f = let no : ◌≡◌ {A = Option ℕ} None (Some n) = f in absurd (cc)
    listed (Some xs) f = (xs, refl, (let same : n ≡ length xs = cc in subst P same p))

    go : (x : Option Object) → option_and_then (λ (o : Object). option_map length (part o.body)) x ≡ Some n → (xs : List X) × (option_and_then (λ (o : Object). part o.body) x ≡ Some xs) × P (length xs)
    go None f = let no : ◌≡◌ {A = Option ℕ} None (Some n) = f in absurd (cc)
    go (Some o) f = listed (part o.body) f

pub counted_has : {X : Type 0} (h : Heap) (v : Value) (part : Body → Option (List X)) (found : Option ℕ) (P : ℕ → Type 0) → part_at h v (λ b. option_map length (part b)) ≡ found → HasPart h v part (λ xs. P (length xs)) → (n : ℕ) × (found ≡ Some n) × P n
counted_has {X} h v part found P e has = go (object_at h v) e has.1
  where
    go : (x : Option Object) → option_and_then (λ (o : Object). option_map length (part o.body)) x ≡ found → option_and_then (λ (o : Object). part o.body) x ≡ Some has.0 → (n : ℕ) × (found ≡ Some n) × P n
    go None f g = let no : ◌≡◌ {A = Option (List X)} None (Some has.0) = g in absurd (cc)
    go (Some o) f g = (length has.0, sym f ∙ ap (option_map length) g, has.2)

is_test : {X : Type 0} (t : Told) (r : ℕ) (part : Body → Option (List X)) (P : ℕ → Type 0) (n : ℕ) (answer : Bool) → IsTrue answer ↔ P n → IsPartAt t r (λ b. option_map length (part b)) (Some n) → IsTestAt t r part (λ xs. P (length xs)) answer
is_test {X} t r part P n answer test is = record {
  name = λ yes. is.name refl;
  there = λ told. (λ yes. has_counted t.heap (t.regs r) part n P (is.there told) (test.0 yes), λ has. (let it = counted_has t.heap (t.regs r) part (Some n) P (is.there told) has in let same : it.0 ≡ n = cc in test.1 (subst P same it.2)));
}

-- a test of the number of elements of a part
pub tests_part : {X : Type 0} (old new : Told) (r : ℕ) (part : Body → Option (List X)) (P : ℕ → Type 0) (found : Option ℕ) (n : ℕ) (answer : Bool) → FindsPart old new r (λ b. option_map length (part b)) found → found ≡ Some n → IsTrue answer ↔ P n → TestsPart old new r part (λ xs. P (length xs)) answer
tests_part {X} old new r part P found n answer finds is test =
    let same = subst (λ x. FindsPart old new r (λ b. option_map length (part b)) x) is finds in
    record { before = is_test old r part P n answer test same.before; after = is_test new r part P n answer test same.after }

none_test : {X : Type 0} (t : Told) (r : ℕ) (part : Body → Option (List X)) (P : ℕ → Type 0) → IsPartAt t r (λ b. option_map length (part b)) None → IsTestAt t r part (λ xs. P (length xs)) false
none_test {X} t r part P is = record {
  name = λ yes. (cc);
  there = λ told. (λ yes. (cc), λ has. (let it = counted_has t.heap (t.regs r) part None P (is.there told) has in let no : ◌≡◌ {A = Option ℕ} None (Some it.0) = it.1 in absurd (cc)));
}

pub tests_none : {X : Type 0} (old new : Told) (r : ℕ) (part : Body → Option (List X)) (P : ℕ → Type 0) (found : Option ℕ) → FindsPart old new r (λ b. option_map length (part b)) found → found ≡ None → TestsPart old new r part (λ xs. P (length xs)) false
tests_none {X} old new r part P found finds is =
    let same = subst (λ x. FindsPart old new r (λ b. option_map length (part b)) x) is finds in
    record { before = none_test old r part P same.before; after = none_test new r part P same.after }

-- a list whose length was found
pub has_sized : {X : Type 0} (t : Told) (r : ℕ) (part : Body → Option (List X)) (P : ℕ → Type 0) (found : Option ℕ) (n : ℕ) → IsPartAt t r (λ b. option_map length (part b)) found → found ≡ Some n → P n → HasPartAt t r part (λ xs. P (length xs))
has_sized {X} t r part P found n is same p = record { name = is.name (ap is_some same); there = λ told. has_counted t.heap (t.regs r) part n P (is.there told ∙ same) p }

-- a test that was passed
pub has_passed : {A : Type 0} {t : Told} {r : ℕ} {f : Body → Option A} {P : A → Type 0} {answer : Bool} → IsTestAt t r f P answer → IsTrue answer → HasPartAt t r f P
has_passed test is = record { name = test.name is; there = λ told. (test.there told).0 is }

-- ---- by kind alone

text_there : (h : Heap) (v : Value) → part_at h v (λ b. Some (kind_of b)) ≡ Some kind.Bytes → HasPart h v text_of (λ xs. Unit {0})
text_there h v e = go (object_at h v) e
  where
    of_body : (b : Body) → kind_of b ≡ kind.Bytes → (xs : List ℕ) × (text_of b ≡ Some xs) × Unit {0}
    of_body (Pointers values) k = let no : ◌≡◌ {A = Kind} kind.Pointers kind.Bytes = k in absurd (cc)
    of_body (Words words) k = let no : ◌≡◌ {A = Kind} kind.Words kind.Bytes = k in absurd (cc)
    of_body (Bytes bytes) k = (bytes, refl, tt)
    of_body (Method header literals code) k = let no : ◌≡◌ {A = Kind} kind.Method kind.Bytes = k in absurd (cc)

    go : (x : Option Object) → option_and_then (λ (o : Object). Some (kind_of o.body)) x ≡ Some kind.Bytes → (xs : List ℕ) × (option_and_then (λ (o : Object). text_of o.body) x ≡ Some xs) × Unit {0}
    go None f = let no : ◌≡◌ {A = Option Kind} None (Some kind.Bytes) = f in absurd (cc)
    go (Some o) f = of_body o.body (let same : kind_of o.body ≡ kind.Bytes = cc in same)

text_kind : (h : Heap) (v : Value) → HasPart h v text_of (λ xs. Unit {0}) → part_at h v (λ b. Some (kind_of b)) ≡ Some kind.Bytes
text_kind h v has = go (object_at h v) has.1
  where
    of_body : (b : Body) → text_of b ≡ Some has.0 → kind_of b ≡ kind.Bytes
    of_body (Pointers values) e = let no : ◌≡◌ {A = Option (List ℕ)} None (Some has.0) = e in absurd (cc)
    of_body (Words words) e = let no : ◌≡◌ {A = Option (List ℕ)} None (Some has.0) = e in absurd (cc)
    of_body (Bytes bytes) e = refl
    of_body (Method header literals code) e = let no : ◌≡◌ {A = Option (List ℕ)} None (Some has.0) = e in absurd (cc)

    go : (x : Option Object) → option_and_then (λ (o : Object). text_of o.body) x ≡ Some has.0 → option_and_then (λ (o : Object). Some (kind_of o.body)) x ≡ Some kind.Bytes
    go None e = let no : ◌≡◌ {A = Option (List ℕ)} None (Some has.0) = e in absurd (cc)
    go (Some o) e = ap (λ k. Some k) (of_body o.body e)

is_text : (t : Told) (r : ℕ) (found : Option Kind) (answer : Bool) → IsTrue answer ↔ (found ≡ Some kind.Bytes) → IsPartAt t r (λ b. Some (kind_of b)) found → IsTestAt t r text_of (λ xs. Unit {0}) answer
is_text t r found answer test is = record {
  name = λ yes. is.name (ap is_some (test.0 yes));
  there = λ told. (λ yes. text_there t.heap (t.regs r) (is.there told ∙ test.0 yes), λ has. test.1 (sym (is.there told) ∙ text_kind t.heap (t.regs r) has));
}

-- a test of the kind
pub tests_text : (old new : Told) (r : ℕ) (found : Option Kind) (answer : Bool) → FindsPart old new r (λ b. Some (kind_of b)) found → IsTrue answer ↔ (found ≡ Some kind.Bytes) → TestsPart old new r text_of (λ xs. Unit {0}) answer
tests_text old new r found answer finds test = record { before = is_text old r found answer test finds.before; after = is_text new r found answer test finds.after }

-- the literals of a method
pub literals_there : (h : Heap) (v : Value) (n : ℕ) → part_at h v (λ b. Some (kind_of b)) ≡ Some kind.Method → part_at h v (λ b. Some (length (fields_of b))) ≡ Some n → part_at h v literals_count ≡ Some n
literals_there h v n e f = go (object_at h v) e f
  where
    of_body : (b : Body) → kind_of b ≡ kind.Method → length (fields_of b) ≡ n → literals_count b ≡ Some n
    of_body (Pointers values) k e = let no : ◌≡◌ {A = Kind} kind.Pointers kind.Method = k in absurd (cc)
    of_body (Words words) k e = let no : ◌≡◌ {A = Kind} kind.Words kind.Method = k in absurd (cc)
    of_body (Bytes bytes) k e = let no : ◌≡◌ {A = Kind} kind.Bytes kind.Method = k in absurd (cc)
    of_body (Method header literals code) k e = ap (λ x. Some x) e

    go : (x : Option Object) → option_and_then (λ (o : Object). Some (kind_of o.body)) x ≡ Some kind.Method → option_and_then (λ (o : Object). Some (length (fields_of o.body))) x ≡ Some n → option_and_then (λ (o : Object). literals_count o.body) x ≡ Some n
    go None e f = let no : ◌≡◌ {A = Option Kind} None (Some kind.Method) = e in absurd (cc)
    go (Some o) e f = of_body o.body (let same : kind_of o.body ≡ kind.Method = cc in same) (let same : length (fields_of o.body) ≡ n = cc in same)

-- a method that was found
pub method_found : (t : Told) (r : ℕ) (found : Option Kind) → IsPartAt t r (λ b. Some (kind_of b)) found → found ≡ Some kind.Method → HasPartAt t r literals_of (λ xs. Unit {0})
method_found t r found part is = record { name = part.name (ap is_some is); there = λ told. go (object_at t.heap (t.regs r)) (part.there told ∙ is) }
  where
    of_body : (b : Body) → kind_of b ≡ kind.Method → (xs : List Value) × (literals_of b ≡ Some xs) × Unit {0}
    of_body (Pointers values) k = let no : ◌≡◌ {A = Kind} kind.Pointers kind.Method = k in absurd (cc)
    of_body (Words words) k = let no : ◌≡◌ {A = Kind} kind.Words kind.Method = k in absurd (cc)
    of_body (Bytes bytes) k = let no : ◌≡◌ {A = Kind} kind.Bytes kind.Method = k in absurd (cc)
    of_body (Method header literals code) k = (literals, refl, tt)

    go : (x : Option Object) → option_and_then (λ (o : Object). Some (kind_of o.body)) x ≡ Some kind.Method → (xs : List Value) × (option_and_then (λ (o : Object). literals_of o.body) x ≡ Some xs) × Unit {0}
    go None e = let no : ◌≡◌ {A = Option Kind} None (Some kind.Method) = e in absurd (cc)
    go (Some o) e = of_body o.body (let same : kind_of o.body ≡ kind.Method = cc in same)

-- ---- numbers

-- a value that is read as a number
pub int_is : (v : Value) (z : ℤ) → int_of v ≡ Some z → v ≡ Int z
int_is (Int y) z e = cc
int_is (Ref n) z e = cc

small_fits : (z : ℤ) → IsSmallInteger z → SFits w16 z
small_fits (pos n) small = omega arith
small_fits (negsuc n) small = omega arith

-- a SmallInteger that is passed by value is that number
pub small_number : (z : ℤ) → IsSmallInteger z → to_z w16 (of_z w16 z) ≡ z
small_number z small = to_z-of_z w16 z (small_fits z small)
