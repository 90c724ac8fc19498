-- Records of a whole heap, by tests that compute.
use Rattle.std.proofs.Common.{◌≡◌, ℕ, ℤ, pos, negsuc, ◌%◌, ◌^◌, ◌<◌, ◌≤◌, nat_lt, nat_le, Bool, true, false, ◌||◌, ◌&&◌, cond, eqb, List, [], ◌∷◌, length, Some, is_some, refl, subst, arith, All}
use Rattle.std.proofs.lemmas.Grind.{common_steps}
use Rattle.std.proofs.lemmas.List.Elements.{All-nil, All-cons}
use borrow.Author.Tests.{ltb-true, leb-true}
use Rattle.std.specs.List.{list_all, list_any}
use Rattle.long_names.specs.Names.{known_names}
use Rattle.long_names.specs.Words.{IsSmallInteger, IsValue, literal_count}
use Rattle.long_names.specs.Objects.{HasSize, IsBody, fields_of, holds, is_ref}
use Rattle.long_names.specs.declared.value.Value.{Value}
use Rattle.long_names.specs.declared.value.Value.TheVariants.{Int, Ref}
use Rattle.long_names.specs.declared.object.Body.{Body}
use Rattle.long_names.specs.declared.object.Body.TheVariants.{Pointers, Words, Bytes, Method}
use Rattle.long_names.specs.declared.object.Object.{Object}
use Rattle.long_names.specs.declared.object.Rec.{Rec}
use Rattle.object_memory.specs.Records.{object_of_rec, object_in, Rise, AreWhole}
use Rattle.object_memory.specs.Base.{base_recs}

both : (a b : Bool) → (a && b) ≡ true → (a ≡ true) × (b ≡ true)
both true true e = (refl, refl)
both true false e = cc
both false b e = cc

-- what passes a test has a property
all-from : {X : Type 0} (p : X → Bool) (P : X → Type 0) (xs : List X) → ((x : X) → p x ≡ true → P x) → list_all p xs ≡ true → All P xs
all-from p P [] each e = All-nil P
all-from p P (x ∷ xs) each e = let t = both (p x) (list_all p xs) e in All-cons P x xs (each x t.0) (all-from p P xs each t.1)

is_small : ℤ → Bool
is_small (pos n) = nat_lt n 16384
is_small (negsuc n) = nat_lt n 16384

small : (z : ℤ) → is_small z ≡ true → IsSmallInteger z
unfolding is_small
small (pos n) e = ltb-true n 16384 e
small (negsuc n) e = ltb-true n 16384 e

is_value : Value → Bool
is_value (Int z) = is_small z
is_value (Ref n) = eqb (n % 2) 0 && (nat_lt 0 n && nat_lt n (2 ^ 32))

value : (v : Value) → is_value v ≡ true → IsValue v
unfolding is_value
value (Int z) e = small z e
value (Ref n) e =
    let t = both (eqb (n % 2) 0) (nat_lt 0 n && nat_lt n (2 ^ 32)) e in
    let u = both (nat_lt 0 n) (nat_lt n (2 ^ 32)) t.1 in
    let even : n % 2 ≡ 0 = grind (arith, common_steps, t.0) in
    (record { even = even; above = ltb-true 0 n u.0 }, ltb-true n (2 ^ 32) u.1)

has_size : Body → Bool
has_size (Pointers values) = nat_lt (length values) 65536
has_size (Words words) = nat_lt (length words) 65536
has_size (Bytes bytes) = nat_lt (length bytes) 65536
has_size (Method header literals code) = is_small header && (eqb (length literals) (literal_count header) && nat_le (length code) 16000)

size : (b : Body) → has_size b ≡ true → HasSize b
unfolding has_size
size (Pointers values) e = ltb-true (length values) 65536 e
size (Words words) e = ltb-true (length words) 65536 e
size (Bytes bytes) e = ltb-true (length bytes) 65536 e
size (Method header literals code) e =
    let t = both (is_small header) (eqb (length literals) (literal_count header) && nat_le (length code) 16000) e in
    let u = both (eqb (length literals) (literal_count header)) (nat_le (length code) 16000) t.1 in
    let same : length literals ≡ literal_count header = grind (arith, common_steps, u.0) in
    (small header t.0, same, leb-true (length code) 16000 u.1)

is_body : Rec → Bool
is_body r = has_size r.body && list_all is_value (fields_of r.body)

body : (r : Rec) → is_body r ≡ true → IsBody r.body
unfolding is_body
body r e = let t = both (has_size r.body) (list_all is_value (fields_of r.body)) e in record { size = size r.body t.0; fields = all-from is_value IsValue (fields_of r.body) value t.1 }

rises : ℕ → List Rec → Bool
rises low [] = true
rises low (r ∷ rs) = nat_lt low r.name && rises r.name rs

rise : (low : ℕ) (rs : List Rec) → rises low rs ≡ true → Rise low rs
unfolding rises
rise low [] e = tt
rise low (r ∷ rs) e = let t = both (nat_lt low r.name) (rises r.name rs) e in (ltb-true low r.name t.0, rise r.name rs t.1)

-- all that a value names is there
value_there : (ℕ → Bool) → Value → Bool
value_there there (Int z) = true
value_there there (Ref n) = there n

all_there : (ℕ → Bool) → Object → Bool
all_there there o = there o.class && list_all (value_there there) (fields_of o.body)

held-value : (there : ℕ → Bool) (values : List Value) (k : ℕ) → list_all (value_there there) values ≡ true → list_any (is_ref k) values ≡ true → there k ≡ true
unfolding value_there
held-value there [] k e h = let no : ◌≡◌ {A = Bool} false true = h in cc
held-value there (v ∷ vs) k e h = let t = both (value_there there v) (list_all (value_there there) vs) e in go v t.0 h (held-value there vs k t.1)
  where
    go : (v : Value) → value_there there v ≡ true → (is_ref k v || list_any (is_ref k) vs) ≡ true → (list_any (is_ref k) vs ≡ true → there k ≡ true) → there k ≡ true
    go (Int z) e h rest = rest h
    go (Ref n) e h rest = at (eqb n k) refl h
      where
        at : (b : Bool) → eqb n k ≡ b → (b || list_any (is_ref k) vs) ≡ true → there k ≡ true
        at true f h = let same : n ≡ k = grind (arith, common_steps, f) in subst (λ x. there x ≡ true) same e
        at false f h = rest h

held : (there : ℕ → Bool) (o : Object) (k : ℕ) → all_there there o ≡ true → holds o k ≡ true → there k ≡ true
unfolding all_there
held there o k e h = let t = both (there o.class) (list_all (value_there there) (fields_of o.body)) e in go (eqb o.class k) refl h t.0 t.1
  where
    go : (b : Bool) → eqb o.class k ≡ b → (b || list_any (is_ref k) (fields_of o.body)) ≡ true → there o.class ≡ true → list_all (value_there there) (fields_of o.body) ≡ true → there k ≡ true
    go true f h first rest = let same : o.class ≡ k = grind (arith, common_steps, f) in subst (λ x. there x ≡ true) same first
    go false f h first rest = held-value there (fields_of o.body) k rest h

-- what is found is one of the records
found : (recs : List Rec) (n : ℕ) (o : Object) (p : Object → Bool) → list_all (λ r. p (object_of_rec r)) recs ≡ true → object_in recs n ≡ Some o → p o ≡ true
found [] n o p e at = cc
found (r ∷ rs) n o p e at = let t = both (p (object_of_rec r)) (list_all (λ r. p (object_of_rec r)) rs) e in go (eqb r.name n) at t.0 (found rs n o p t.1)
  where
    go : (b : Bool) → cond b (Some (object_of_rec r)) (object_in rs n) ≡ Some o → p (object_of_rec r) ≡ true → (object_in rs n ≡ Some o → p o ≡ true) → p o ≡ true
    go true at first rest = let same : object_of_rec r ≡ o = cc in subst (λ x. p x ≡ true) same first
    go false at first rest = rest at

listed : (p : ℕ → Bool) (names : List ℕ) (n : ℕ) → list_all p names ≡ true → list_any (λ k. eqb n k) names ≡ true → p n ≡ true
listed p [] n e h = let no : ◌≡◌ {A = Bool} false true = h in cc
listed p (k ∷ ks) n e h = let t = both (p k) (list_all p ks) e in go (eqb n k) refl h t.0 (listed p ks n t.1)
  where
    go : (b : Bool) → eqb n k ≡ b → (b || list_any (λ k. eqb n k) ks) ≡ true → p k ≡ true → (list_any (λ k. eqb n k) ks ≡ true → p n ≡ true) → p n ≡ true
    go true f h first rest = let same : k ≡ n = grind (arith, common_steps, f) in subst (λ x. p x ≡ true) same first
    go false f h first rest = rest h

-- the records of the base image, with a next name above them
pub base-whole : (next : ℕ) → next % 2 ≡ 0 → 68 ≤ next → AreWhole base_recs next
unfolding is_small is_value has_size is_body rises value_there all_there
base-whole next even above = record {
  even = even;
  rise = rise 0 base_recs refl;
  below = all-from (λ (r : Rec). nat_lt r.name 68) (λ (r : Rec). r.name < next) base_recs (λ r e. let low = ltb-true r.name 68 e in omega arith) refl;
  bodies = all-from is_body (λ (r : Rec). IsBody r.body) base_recs body refl;
  known = λ n e. listed there known_names n refl e;
  closed = λ n o k at h. held there o k (found base_recs n o (all_there there) refl at) h;
}
  where
    there : ℕ → Bool
    there n = is_some (object_in base_recs n)
