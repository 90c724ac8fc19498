-- A test that an object passes where an image may have it and the heap has the names that it holds. It computes, so that the objects of
-- the table pass it by `refl`.
use Rattle.std.proofs.Common.{◌≡◌, ◌⊎◌, inl, inr, ℕ, ℤ, pos, negsuc, ◌+◌, ◌%◌, ◌^◌, ◌<◌, ◌==◌, nat_lt, nat_le, eqb, Bool, true, false, ◌&&◌, ◌||◌, List, [], ◌∷◌, ◌++◌, length, subst}
use Rattle.std.proofs.lemmas.Bool.{ltb-true, leb-true, eqb-true, and_parts, and_from, or_cases}
use Rattle.std.proofs.lemmas.List.Elements.{All-nil, All-cons}
use Rattle.std.specs.List.{All, list_all, list_any}
use Rattle.long_names.specs.Names.{IsLongName}
use Rattle.long_names.specs.Words.{IsSmallInteger, IsValue, literal_count}
use Rattle.long_names.specs.declared.limits.TheConstants.{MOST_CODE, MOST_FIELDS}
use Rattle.long_names.specs.Objects.{IsObject, HasSize, HasRange, fields_of, is_ref, holds}
use Rattle.long_names.specs.declared.value.Value.{Value}
use Rattle.long_names.specs.declared.value.Value.TheVariants.{Int, Ref}
use Rattle.long_names.specs.declared.object.Body.{Body}
use Rattle.long_names.specs.declared.object.Body.TheVariants.{Pointers, Words, Bytes, Method}
use Rattle.long_names.specs.declared.object.Object.{Object}
use Rattle.image_builder.specs.Rules.{is_small}

-- ---- the test, with what tells which names the heap has

abbrev pub name_passes : (ℕ → Bool) → ℕ → Bool
name_passes has n = (n % 2 == 0 && nat_lt 0 n) && (nat_lt n (2 ^ 32) && has n)

abbrev pub value_passes : (ℕ → Bool) → Value → Bool
value_passes has (Int z) = is_small z
value_passes has (Ref n) = name_passes has n

abbrev pub are_below : ℕ → List ℕ → Bool
are_below high ns = list_all (λ n. nat_lt n high) ns

abbrev pub size_passes : Body → Bool
size_passes (Pointers values) = nat_lt (length values) (MOST_FIELDS + 1)
size_passes (Words words) = nat_lt (length words) (MOST_FIELDS + 1) && are_below (2 ^ 16) words
size_passes (Bytes bytes) = nat_lt (length bytes) (MOST_FIELDS + 1) && are_below (2 ^ 8) bytes
size_passes (Method header literals code) = (is_small header && (length literals == literal_count header && nat_le (length code) MOST_CODE)) && are_below (2 ^ 8) code

abbrev pub object_passes : (ℕ → Bool) → Object → Bool
object_passes has o = name_passes has o.class && (size_passes o.body && list_all (value_passes has) (fields_of o.body))

-- ---- what it says of the object

all-is : {X : Type 0} (p : X → Bool) (P : X → Type 0) → ((x : X) → p x ≡ true → P x) → (xs : List X) → list_all p xs ≡ true → All P xs
all-is p P each [] all = All-nil P
all-is p P each (x ∷ xs) all = let two = and_parts (p x) (list_all p xs) all in All-cons P x xs (each x two.0) (all-is p P each xs two.1)

name-is : (has : ℕ → Bool) (n : ℕ) → name_passes has n ≡ true → IsLongName n
name-is has n passes =
    let two = and_parts _ _ passes in
    let word = and_parts (eqb (n % 2) 0) (nat_lt 0 n) two.0 in
    (record { even = eqb-true (n % 2) 0 word.0; above = ltb-true 0 n word.1 }, ltb-true n (2 ^ 32) (and_parts (nat_lt n (2 ^ 32)) (has n) two.1).0)

name-has : (has : ℕ → Bool) (n : ℕ) → name_passes has n ≡ true → has n ≡ true
name-has has n passes = (and_parts (nat_lt n (2 ^ 32)) (has n) (and_parts _ _ passes).1).1

small-is : (z : ℤ) → is_small z ≡ true → IsSmallInteger z
small-is (pos n) passes = ltb-true n _ passes
small-is (negsuc n) passes = ltb-true n _ passes

value-is : (has : ℕ → Bool) (v : Value) → value_passes has v ≡ true → IsValue v
value-is has (Int z) passes = small-is z passes
value-is has (Ref n) passes = name-is has n passes

below-is : (high : ℕ) (ns : List ℕ) → are_below high ns ≡ true → All (λ n. n < high) ns
below-is high ns passes = all-is (λ n. nat_lt n high) (λ n. n < high) (λ n. ltb-true n high) ns passes

size-is : (body : Body) → size_passes body ≡ true → HasSize body
size-is (Pointers values) passes = ltb-true _ _ passes
size-is (Words words) passes = ltb-true _ _ (and_parts _ _ passes).0
size-is (Bytes bytes) passes = ltb-true _ _ (and_parts _ _ passes).0
size-is (Method header literals code) passes =
    let parts = and_parts (is_small header) _ (and_parts _ (are_below (2 ^ 8) code) passes).0 in
    let counts = and_parts (eqb (length literals) (literal_count header)) (nat_le (length code) MOST_CODE) parts.1 in
    (small-is header parts.0, eqb-true _ _ counts.0, leb-true _ _ counts.1)

range-is : (body : Body) → size_passes body ≡ true → HasRange body
range-is (Pointers values) passes = tt
range-is (Words words) passes = below-is (2 ^ 16) words (and_parts _ _ passes).1
range-is (Bytes bytes) passes = below-is (2 ^ 8) bytes (and_parts _ _ passes).1
range-is (Method header literals code) passes = below-is (2 ^ 8) code (and_parts _ (are_below (2 ^ 8) code) passes).1

pub object-is : (has : ℕ → Bool) (o : Object) → object_passes has o ≡ true → IsObject o
object-is has o passes =
    let two = and_parts (name_passes has o.class) _ passes in
    let body = and_parts (size_passes o.body) (list_all (value_passes has) (fields_of o.body)) two.1 in
    record {
      class = name-is has o.class two.0;
      body = record { size = size-is o.body body.0; fields = all-is (value_passes has) IsValue (value-is has) (fields_of o.body) body.1 };
      range = range-is o.body body.0;
    }

any-has : (has : ℕ → Bool) (q : ℕ) (vs : List Value) → list_all (value_passes has) vs ≡ true → list_any (is_ref q) vs ≡ true → has q ≡ true
any-has has q [] all any = let no : ◌≡◌ {A = Bool} false true = any in absurd (cc)
any-has has q (v ∷ vs) all any =
    let two = and_parts (value_passes has v) (list_all (value_passes has) vs) all in
    first v two.0 any (λ rest. any-has has q vs two.1 rest)
  where
    first : (v : Value) → value_passes has v ≡ true → (is_ref q v || list_any (is_ref q) vs) ≡ true → (list_any (is_ref q) vs ≡ true → has q ≡ true) → has q ≡ true
    first (Int z) passes any rest = rest any
    first (Ref n) passes any rest = go (or_cases (eqb n q) (list_any (is_ref q) vs) any)
      where
        go : (eqb n q ≡ true) ⊎ (list_any (is_ref q) vs ≡ true) → has q ≡ true
        go (inl same) = subst (λ (k : ℕ). has k ≡ true) (eqb-true n q same) (name-has has n passes)
        go (inr other) = rest other

pub object-holds : (has : ℕ → Bool) (o : Object) → object_passes has o ≡ true → (q : ℕ) → holds o q ≡ true → has q ≡ true
object-holds has o passes q held =
    let two = and_parts (name_passes has o.class) _ passes in
    let body = and_parts (size_passes o.body) (list_all (value_passes has) (fields_of o.body)) two.1 in
    go (or_cases (eqb o.class q) (list_any (is_ref q) (fields_of o.body)) held) two.0 body.1
  where
    go : (eqb o.class q ≡ true) ⊎ (list_any (is_ref q) (fields_of o.body) ≡ true) → name_passes has o.class ≡ true → list_all (value_passes has) (fields_of o.body) ≡ true → has q ≡ true
    go (inl same) name fields = subst (λ (k : ℕ). has k ≡ true) (eqb-true o.class q same) (name-has has o.class name)
    go (inr other) name fields = any-has has q (fields_of o.body) fields other

-- ---- of a list with one element between others, and of many that are the same

pub all-between : {X : Type 0} (p : X → Bool) (xs : List X) (x : X) (ys : List X) → list_all p xs ≡ true → p x ≡ true → list_all p ys ≡ true → list_all p (xs ++ x ∷ ys) ≡ true
all-between p [] x ys before here behind = and_from (p x) (list_all p ys) here behind
all-between p (y ∷ xs) x ys before here behind = let two = and_parts (p y) (list_all p xs) before in and_from (p y) (list_all p (xs ++ x ∷ ys)) two.0 (all-between p xs x ys two.1 here behind)

pub all-both : {X : Type 0} (p : X → Bool) (xs ys : List X) → list_all p xs ≡ true → list_all p ys ≡ true → list_all p (xs ++ ys) ≡ true
all-both p [] ys first second = second
all-both p (x ∷ xs) ys first second = let two = and_parts (p x) (list_all p xs) first in and_from (p x) (list_all p (xs ++ ys)) two.0 (all-both p xs ys two.1 second)
