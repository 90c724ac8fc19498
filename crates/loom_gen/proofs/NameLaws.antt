-- What stands under a name: an object of the table, a character or a node, each by its number.
use Rattle.std.proofs.Common.{◌≡◌, ◌⊎◌, inl, inr, ℕ, ◌+◌, ◌-◌, ◌*◌, ◌/◌, ◌%◌, ◌<◌, ◌≤◌, ◌==◌, nat_lt, eqb, Bool, true, false, cond, Option, Some, None, Result, Ok, Err, IfOk, refl, sym, ◌∙◌, ap, subst, arith}
use Rattle.std.proofs.lemmas.Bool.{ltb-true, ltb-false, eqb-false, lt-ltb, le-ltb, ne_eqb}
use Rattle.std.specs.Map.{lookup}
use Rattle.long_names.specs.Names.{IsName}
use Rattle.long_names.specs.declared.object.Object.{Object}
use Rattle.loom_gen.specs.declared.names.TheConstants.{FIRST_CHARACTER, CHARACTERS, FIRST_NODE}
use Rattle.loom_gen.specs.Table.{table, character_name, node_name}
use Rattle.loom_gen.specs.Generated.{node_count, next_name, character, node, object_named}

-- ---- the three kinds of objects

pub record IsTabled (number n : ℕ) (o : Object) : Type 0 where
  pub low : n < FIRST_CHARACTER
  pub found : lookup (λ name. name == n) (table number) ≡ Some o

pub record IsCharacter (n : ℕ) (o : Object) : Type 0 where
  pub k : ℕ
  pub low : k < CHARACTERS
  pub named : n ≡ character_name k
  pub is : o ≡ character k

pub record IsNode (number n : ℕ) (o : Object) : Type 0 where
  pub j : ℕ
  pub low : j < node_count number
  pub named : n ≡ node_name j
  pub is : o ≡ node number j

-- ---- the number of a name

even-is : (n : ℕ) → eqb (n % 2) 1 ≡ false → n % 2 ≡ 0
even-is n e = let odd = eqb-false (n % 2) 1 e in omega arith

half-back : (n base : ℕ) → base % 2 ≡ 0 → n % 2 ≡ 0 → base ≤ n → n ≡ base + 2 * ((n - base) / 2)
half-back n base even is low = omega arith

half-low : (n base count : ℕ) → n < base + 2 * count → base ≤ n → (n - base) / 2 < count
half-low n base count high low = omega arith

half-is : (base k : ℕ) → (base + 2 * k - base) / 2 ≡ k
half-is base k = omega arith

some-is : (a b : Object) → Some a ≡ Some b → b ≡ a
some-is a b e = cc

-- ---- from a name to its object, and back

pub stands : (number n : ℕ) (o : Object) → object_named number n ≡ Some o → IsTabled number n o ⊎ (IsCharacter n o ⊎ IsNode number n o)
unfolding object_named
stands number n o e = go (nat_lt n FIRST_CHARACTER) (eqb (n % 2) 1) (nat_lt n FIRST_NODE) (nat_lt n (next_name number)) refl refl refl refl e
  where
    go : (a b c d : Bool) → nat_lt n FIRST_CHARACTER ≡ a → eqb (n % 2) 1 ≡ b → nat_lt n FIRST_NODE ≡ c → nat_lt n (next_name number) ≡ d → cond a (lookup (λ name. name == n) (table number)) (cond b None (cond c (Some (character ((n - FIRST_CHARACTER) / 2))) (cond d (Some (node number ((n - FIRST_NODE) / 2))) None))) ≡ Some o → IsTabled number n o ⊎ (IsCharacter n o ⊎ IsNode number n o)
    go true b c d is-a is-b is-c is-d e = inl (record { low = ltb-true n FIRST_CHARACTER is-a; found = e })
    go false true c d is-a is-b is-c is-d e = let no : ◌≡◌ {A = Option Object} None (Some o) = e in absurd (cc)
    go false false true d is-a is-b is-c is-d e =
        inr (inl (record {
          k = (n - FIRST_CHARACTER) / 2;
          low = half-low n FIRST_CHARACTER CHARACTERS (ltb-true n FIRST_NODE is-c) (ltb-false n FIRST_CHARACTER is-a);
          named = half-back n FIRST_CHARACTER refl (even-is n is-b) (ltb-false n FIRST_CHARACTER is-a);
          is = some-is _ o e;
        }))
    go false false false true is-a is-b is-c is-d e =
        inr (inr (record {
          j = (n - FIRST_NODE) / 2;
          low = half-low n FIRST_NODE (node_count number) (ltb-true n (next_name number) is-d) (ltb-false n FIRST_NODE is-c);
          named = half-back n FIRST_NODE refl (even-is n is-b) (ltb-false n FIRST_NODE is-c);
          is = some-is _ o e;
        }))
    go false false false false is-a is-b is-c is-d e = let no : ◌≡◌ {A = Option Object} None (Some o) = e in absurd (cc)

-- by the four tests
named-by : (number n : ℕ) (a b c d : Bool) → nat_lt n FIRST_CHARACTER ≡ a → eqb (n % 2) 1 ≡ b → nat_lt n FIRST_NODE ≡ c → nat_lt n (next_name number) ≡ d → object_named number n ≡ cond a (lookup (λ name. name == n) (table number)) (cond b None (cond c (Some (character ((n - FIRST_CHARACTER) / 2))) (cond d (Some (node number ((n - FIRST_NODE) / 2))) None)))
unfolding object_named
named-by number n a b c d is-a is-b is-c is-d =
    ap (λ (x : Bool). cond x (lookup (λ name. name == n) (table number)) (cond (eqb (n % 2) 1) None (cond (nat_lt n FIRST_NODE) (Some (character ((n - FIRST_CHARACTER) / 2))) (cond (nat_lt n (next_name number)) (Some (node number ((n - FIRST_NODE) / 2))) None)))) is-a
    ∙ ap (λ (x : Bool). cond a (lookup (λ name. name == n) (table number)) (cond x None (cond (nat_lt n FIRST_NODE) (Some (character ((n - FIRST_CHARACTER) / 2))) (cond (nat_lt n (next_name number)) (Some (node number ((n - FIRST_NODE) / 2))) None)))) is-b
    ∙ ap (λ (x : Bool). cond a (lookup (λ name. name == n) (table number)) (cond b None (cond x (Some (character ((n - FIRST_CHARACTER) / 2))) (cond (nat_lt n (next_name number)) (Some (node number ((n - FIRST_NODE) / 2))) None)))) is-c
    ∙ ap (λ (x : Bool). cond a (lookup (λ name. name == n) (table number)) (cond b None (cond c (Some (character ((n - FIRST_CHARACTER) / 2))) (cond x (Some (node number ((n - FIRST_NODE) / 2))) None)))) is-d

pub tabled-at : (number n : ℕ) → n < FIRST_CHARACTER → object_named number n ≡ lookup (λ name. name == n) (table number)
tabled-at number n low = named-by number n true _ _ _ (lt-ltb n FIRST_CHARACTER low) refl refl refl

not-odd : (base k : ℕ) → base % 2 ≡ 0 → (base + 2 * k) % 2 ≡ 1 → ⊥
not-odd base k even odd = omega arith

pub character-at : (number k : ℕ) → k < CHARACTERS → object_named number (character_name k) ≡ Some (character k)
character-at number k low =
    named-by number (character_name k) false false true _ (le-ltb (character_name k) FIRST_CHARACTER (omega arith)) (ne_eqb _ 1 (not-odd FIRST_CHARACTER k refl)) (lt-ltb (character_name k) FIRST_NODE (omega arith)) refl
    ∙ ap (λ (i : ℕ). Some (character i)) (half-is FIRST_CHARACTER k)

pub node-at : (number j : ℕ) → j < node_count number → object_named number (node_name j) ≡ Some (node number j)
node-at number j low =
    named-by number (node_name j) false false false true (le-ltb (node_name j) FIRST_CHARACTER (omega arith)) (ne_eqb _ 1 (not-odd FIRST_NODE j refl)) (le-ltb (node_name j) FIRST_NODE (omega arith)) (lt-ltb (node_name j) (next_name number) (omega arith))
    ∙ ap (λ (i : ℕ). Some (node number i)) (half-is FIRST_NODE j)

-- the same from a word that was read
pub character-found : (number n w : ℕ) (o : Object) → w ≡ n → IsName n → FIRST_CHARACTER ≤ w → w < FIRST_NODE → o ≡ character ((w - FIRST_CHARACTER) / 2) → Some o ≡ object_named number n
character-found number n w o same name high low is =
    ap (λ (x : Object). Some x) is
    ∙ sym (character-at number ((w - FIRST_CHARACTER) / 2) (half-low w FIRST_CHARACTER CHARACTERS low high))
    ∙ ap (object_named number) (sym (half-back w FIRST_CHARACTER refl (subst (λ (k : ℕ). k % 2 ≡ 0) (sym same) name.even) high) ∙ same)

pub node-found : (number n w : ℕ) (o : Object) → w ≡ n → IsName n → FIRST_NODE ≤ w → w < next_name number → o ≡ node number ((w - FIRST_NODE) / 2) → Some o ≡ object_named number n
node-found number n w o same name high low is =
    ap (λ (x : Object). Some x) is
    ∙ sym (node-at number ((w - FIRST_NODE) / 2) (half-low w FIRST_NODE (node_count number) low high))
    ∙ ap (object_named number) (sym (half-back w FIRST_NODE refl (subst (λ (k : ℕ). k % 2 ≡ 0) (sym same) name.even) high) ∙ same)

pub table-found : {E : Type 0} (number n w : ℕ) (r : Result (Option Object) E) → w ≡ n → w < FIRST_CHARACTER → IfOk r (λ found. found ≡ lookup (λ name. name == w) (table number)) → IfOk r (λ found. found ≡ object_named number n)
table-found number n w (Ok x) same low found = found ∙ sym (tabled-at number w low) ∙ ap (object_named number) same
table-found number n w (Err e) same low found = tt

-- ---- where there is none

pub never : (x : Option Object) → ((o : Object) → x ≡ Some o → ⊥) → x ≡ None
never None h = refl
never (Some o) h = absurd (h o refl)

pub bounded-at : (number n : ℕ) → next_name number ≤ n → object_named number n ≡ None
bounded-at number n above = never (object_named number n) (λ o e. go o (stands number n o e))
  where
    go : (o : Object) → IsTabled number n o ⊎ (IsCharacter n o ⊎ IsNode number n o) → ⊥
    go o (inl t) = let low = t.low in omega arith
    go o (inr (inl t)) = let low = t.low in let named = t.named in omega arith
    go o (inr (inr t)) = let low = t.low in let named = t.named in omega arith
