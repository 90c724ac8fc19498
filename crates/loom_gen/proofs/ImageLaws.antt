-- A generated heap is one that an image may have.
use Rattle.std.proofs.Common.{◌≡◌, ◌⊎◌, inl, inr, ℕ, ◌+◌, ◌-◌, ◌*◌, ◌/◌, ◌%◌, ◌<◌, ◌≤◌, ◌==◌, eqb, nat_lt, Bool, true, false, cond, ◌&&◌, ◌||◌, List, [], ◌∷◌, ◌++◌, map, Some, is_some, refl, sym, ◌∙◌, ap, ap₂, subst, lit<, arith}
use Rattle.std.proofs.Math.Nat.{mod-lt, mod-eq_of_lt, add-mod_right}
use Rattle.std.proofs.lemmas.Bool.{eqb-true, ltb-true, ltb-false, lt-ltb, eq-eqb, and_parts, and_from, or_left, or_right}
use Rattle.std.proofs.lemmas.Grind.{common_steps}
use Rattle.std.proofs.lemmas.List.Folds.{list_any_at, list_any-append}
use Rattle.std.proofs.lemmas.List.FromFn.{length-map-range_with_len, get_or-map-range_with_len}
use Rattle.std.specs.List.{list_any, range_with_len}
use Rattle.long_names.specs.Names.{IsName, is_known, known_names, ARRAY, CHARACTER_TABLE}
use Rattle.long_names.specs.Objects.{IsObject, holds, is_ref}
use Rattle.long_names.specs.Heap.{IsBounded, object_count, count_of}
use Rattle.long_names.specs.declared.value.Value.{Value}
use Rattle.long_names.specs.declared.value.Value.TheVariants.{Ref}
use Rattle.long_names.specs.declared.object.Object.{Object}
use Rattle.long_names.proofs.ThinLemmas.{has}
use Rattle.long_names.proofs.CountLaws.{counted-held}
use Rattle.image_format.specs.Text.{IsHead}
use Rattle.image_format.specs.Valid.{IsImageHeap}
use Rattle.loom_gen.specs.declared.names.TheConstants.{SCHEDULER, FIRST_CHARACTER, CHARACTERS}
use Rattle.loom_gen.specs.declared.nodes.TheConstants.{STRIDE}
use Rattle.loom_gen.specs.Notation.{array}
use Rattle.loom_gen.specs.Table.{table, characters, character_name, node_name}
use Rattle.loom_gen.specs.Generated.{node_count, next_name, character, node, object_named, generated}
use Rattle.loom_gen.proofs.NameLaws.{IsTabled, IsCharacter, IsNode, stands, tabled-at, node-at, bounded-at}
use Rattle.loom_gen.proofs.TestLaws.{object_passes, object-is, object-holds}
use Rattle.loom_gen.proofs.TableLaws.{is_in_table, is_behind, has_name, has-there, node-has, table-passes, lookup-passes, name-passes, tabled-held, IsHeldIn}
use Rattle.loom_gen.proofs.NumberLaws.{count-is}

-- ---- each object passes the test

step-on : (number j : ℕ) → (j + STRIDE) % node_count number < node_count number
step-on number j = let some : 0 < node_count number = omega arith in mod-lt (j + STRIDE) some

character-passes : (number k : ℕ) → k < CHARACTERS → object_passes (has_name number) (character k) ≡ true
character-passes number k low = and_from _ true (small k low) refl
  where
    small : (k : ℕ) → k < CHARACTERS → nat_lt k 16384 ≡ true
    small k low = lt-ltb k 16384 (omega arith)

node-passes : (number j : ℕ) → number ≤ 19 → object_passes (has_name number) (node number j) ≡ true
node-passes number j small = and_from _ true (node-has number ((j + STRIDE) % node_count number) small (step-on number j)) refl

pub object-passes : (number n : ℕ) (o : Object) → number ≤ 19 → object_named number n ≡ Some o → object_passes (has_name number) o ≡ true
object-passes number n o small e = go (stands number n o e)
  where
    go : IsTabled number n o ⊎ (IsCharacter n o ⊎ IsNode number n o) → object_passes (has_name number) o ≡ true
    go (inl t) = lookup-passes (λ (x : ℕ × Object). object_passes (has_name number) x.1) (table number) n o (table-passes number small) t.found
    go (inr (inl t)) = subst (λ (x : Object). object_passes (has_name number) x ≡ true) (sym t.is) (character-passes number t.k t.low)
    go (inr (inr t)) = subst (λ (x : Object). object_passes (has_name number) x ≡ true) (sym t.is) (node-passes number t.j small)

pub object-named : (number n : ℕ) (o : Object) → number ≤ 19 → object_named number n ≡ Some o → IsObject o
object-named number n o small e = object-is (has_name number) o (object-passes number n o small e)

-- ---- each object but the known ones is held

-- the character table holds each character
abbrev every_character : List Value
every_character = map (λ k. Ref (character_name k)) (range_with_len 0 CHARACTERS)

among-characters : (k : ℕ) → k < CHARACTERS → list_any (is_ref (character_name k)) every_character ≡ true
among-characters k low =
    list_any_at (is_ref (character_name k)) every_character k (Ref 0) (subst (λ (n : ℕ). k < n) (sym (length-map-range_with_len (λ (i : ℕ). Ref (character_name i)) 0 CHARACTERS)) low)
    (ap (λ (v : Value). is_ref (character_name k) v) (get_or-map-range_with_len (λ (i : ℕ). Ref (character_name i)) 0 CHARACTERS k k (Ref 0) low (omega arith)) ∙ eq-eqb (character_name k) (character_name k) refl)

table-holds : (k : ℕ) → k < CHARACTERS → holds (array characters) (character_name k) ≡ true
unfolding characters
table-holds k low = or_right (eqb ARRAY (character_name k)) (list_any (is_ref (character_name k)) every_character) (among-characters k low)

table-at : (number : ℕ) → object_named number CHARACTER_TABLE ≡ Some (array characters)
unfolding table
table-at number = tabled-at number CHARACTER_TABLE (lit< tt) ∙ refl

-- the node before one, round the ring
abbrev before : ℕ → ℕ → ℕ
before count j = cond (nat_lt j STRIDE) (j + count - STRIDE) (j - STRIDE)

before-low : (count j : ℕ) → STRIDE ≤ count → j < count → before count j < count
before-low count j long low = go (nat_lt j STRIDE) refl
  where
    go : (b : Bool) → nat_lt j STRIDE ≡ b → cond b (j + count - STRIDE) (j - STRIDE) < count
    go true is = let less : j < STRIDE = ltb-true j STRIDE is in omega arith
    go false is = omega arith

before-is : (count j : ℕ) → STRIDE ≤ count → j < count → (before count j + STRIDE) % count ≡ j
before-is count j long low = go (nat_lt j STRIDE) refl
  where
    go : (b : Bool) → nat_lt j STRIDE ≡ b → (cond b (j + count - STRIDE) (j - STRIDE) + STRIDE) % count ≡ j
    go true is =
        let back : j + count - STRIDE + STRIDE ≡ j + count = omega arith in
        ap (λ (n : ℕ). n % count) back ∙ add-mod_right j count ∙ mod-eq_of_lt low
    go false is =
        let more : STRIDE ≤ j = ltb-false j STRIDE is in
        let back : j - STRIDE + STRIDE ≡ j = omega arith in
        ap (λ (n : ℕ). n % count) back ∙ mod-eq_of_lt low

node-holds : (number j : ℕ) → j < node_count number → holds (node number (before (node_count number) j)) (node_name j) ≡ true
node-holds number j low =
    or_right (eqb ARRAY (node_name j)) _
    (or_left (eqb (node_name ((before (node_count number) j + STRIDE) % node_count number)) (node_name j)) _
    (eq-eqb _ (node_name j) (ap node_name (before-is (node_count number) j (omega arith) low))))

pub counted-at : (number n : ℕ) (o : Object) → IsBounded (generated number) → object_named number n ≡ Some o → count_of (generated number) n ≡ 0 → is_known n ≡ true
counted-at number n o bounded e none = go (stands number n o e)
  where
    held : (k m : ℕ) (p : Object) → m ≡ n → object_named number k ≡ Some p → holds p m ≡ true → ⊥
    held k m p same is holds_it =
        let some = counted-held (generated number) k n p is bounded (subst (λ (q : ℕ). holds p q ≡ true) same holds_it) in omega arith

    tabled : (is_known n ≡ true) ⊎ IsHeldIn number n → is_known n ≡ true
    tabled (inl known) = known
    tabled (inr h) =
        let low = ltb-true h.holder FIRST_CHARACTER (name-passes (λ k. nat_lt k FIRST_CHARACTER) number h.holder h.object refl h.found) in
        absurd (held h.holder n h.object refl (tabled-at number h.holder low ∙ h.found) h.held)

    go : IsTabled number n o ⊎ (IsCharacter n o ⊎ IsNode number n o) → is_known n ≡ true
    go (inl t) = tabled (tabled-held number n o t.found)
    go (inr (inl t)) = absurd (held CHARACTER_TABLE (character_name t.k) (array characters) (sym t.named) (table-at number) (table-holds t.k t.low))
    go (inr (inr t)) =
        let count = node_count number in
        absurd (held (node_name (before count t.j)) (node_name t.j) (node number (before count t.j)) (sym t.named) (node-at number (before count t.j) (before-low count t.j (omega arith) t.low)) (node-holds number t.j t.low))

-- ---- the whole

pub name-at : (number n : ℕ) (o : Object) → object_named number n ≡ Some o → IsName n
name-at number n o e = go (stands number n o e)
  where
    go : IsTabled number n o ⊎ (IsCharacter n o ⊎ IsNode number n o) → IsName n
    go (inl t) =
        let both = and_parts (eqb (n % 2) 0) (nat_lt 0 n) (name-passes (λ k. eqb (k % 2) 0 && nat_lt 0 k) number n o refl t.found) in
        record { even = eqb-true (n % 2) 0 both.0; above = ltb-true 0 n both.1 }
    go (inr (inl t)) = let named = t.named in record { even = omega arith; above = omega arith }
    go (inr (inr t)) = let named = t.named in record { even = omega arith; above = omega arith }

turned : (ns : List ℕ) (n : ℕ) → list_any (λ k. n == k) ns ≡ list_any (λ k. k == n) ns
turned [] n = refl
turned (k ∷ ks) n = ap₂ (λ (a b : Bool). a || b) (same n k) (turned ks n)
  where
    same : (a b : ℕ) → eqb a b ≡ eqb b a
    same a b = grind (arith, common_steps)

any-front : (p : ℕ → Bool) (xs ys : List ℕ) → list_any p xs ≡ true → list_any p (xs ++ ys) ≡ true
any-front p xs ys e = list_any-append p xs ys ∙ or_left (list_any p xs) (list_any p ys) e

known-at : (number n : ℕ) → is_known n ≡ true → is_some (object_named number n) ≡ true
known-at number n known =
    has-there number n (or_left (is_in_table n) (is_behind number n) (any-front (λ k. k == n) known_names (map (λ i. SCHEDULER + 2 * i) (range_with_len 0 ((FIRST_CHARACTER - SCHEDULER) / 2))) (sym (turned known_names n) ∙ known)))

head-is : (number : ℕ) → number ≤ 19 → IsHead (object_count (generated number)) (next_name number)
head-is number small =
    subst (λ (n : ℕ). IsHead n (next_name number)) (sym (count-is number))
    (record { enough = omega arith; few = omega arith; even = omega arith; low = omega arith; high = omega arith })

pub image-is : (number : ℕ) → number ≤ 19 → IsImageHeap (generated number)
image-is number small = record {
  head = head-is number small;
  bounded = bounded;
  names = λ n there. let o = has (generated number) n there in name-at number n o.0 o.1;
  objects = λ n o e. object-named number n o small e;
  closed = λ n q o e held. has-there number q (object-holds (has_name number) o (object-passes number n o small e) q held);
  counted = λ n there none. let o = has (generated number) n there in counted-at number n o.0 bounded o.1 none;
  known = known-at number;
}
  where
    bounded : IsBounded (generated number)
    bounded = record { bounded = λ n above. bounded-at number n above }
