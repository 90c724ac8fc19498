-- How many objects there are: those of the table, the characters, and the nodes.
use Rattle.std.proofs.Common.{◌≡◌, ◌⊎◌, inl, inr, zero, suc, ℕ, ◌+◌, ◌*◌, ◌%◌, ◌<◌, ◌≤◌, ◌==◌, eqb, Bool, true, cond, List, Option, None, is_some, refl, sym, ◌∙◌, ap, ap₂, arith}
use Rattle.std.proofs.lemmas.Bool.{eqb-true}
use Rattle.std.specs.Map.{lookup}
use Rattle.long_names.specs.Heap.{Heap, objects_below, object_count}
use Rattle.long_names.specs.declared.object.Object.{Object}
use Rattle.loom_gen.specs.declared.names.TheConstants.{FIRST_CHARACTER, CHARACTERS, FIRST_NODE}
use Rattle.loom_gen.specs.Table.{table}
use Rattle.loom_gen.specs.Generated.{node_count, object_named, generated}
use Rattle.loom_gen.proofs.NameLaws.{IsTabled, IsCharacter, IsNode, stands, never, tabled-at, character-at, node-at}
use Rattle.loom_gen.proofs.TableLaws.{name-passes}

-- ---- odd names have none

pub odd-at : (number n : ℕ) → n % 2 ≡ 1 → object_named number n ≡ None
odd-at number n odd = never (object_named number n) (λ o e. go o (stands number n o e))
  where
    go : (o : Object) → IsTabled number n o ⊎ (IsCharacter n o ⊎ IsNode number n o) → ⊥
    go o (inl t) = let even : n % 2 ≡ 0 = eqb-true (n % 2) 0 (name-passes (λ k. eqb (k % 2) 0) number n o refl t.found) in omega arith
    go o (inr (inl t)) = let named = t.named in omega arith
    go o (inr (inr t)) = let named = t.named in omega arith

-- ---- those of the table

abbrev entries_below : List (ℕ × Object) → ℕ → ℕ
entries_below entries zero = 0
entries_below entries (suc n) = entries_below entries n + cond (is_some (lookup (λ name. name == n) entries)) 1 0

below-table : (number n : ℕ) → n ≤ FIRST_CHARACTER → objects_below (generated number) n ≡ entries_below (table number) n
below-table number zero low = refl
below-table number (suc n) low = ap₂ (λ (a b : ℕ). a + b) (below-table number n (omega arith)) (ap (λ (x : Option Object). cond (is_some x) 1 0) (tabled-at number n (omega arith)))

table-entries : (number : ℕ) → entries_below (table number) FIRST_CHARACTER ≡ 71
unfolding table
table-entries number = refl

-- ---- a run of even names

two-more : (h : Heap) (n : ℕ) → is_some (h.at n) ≡ true → h.at (suc n) ≡ None → objects_below h (suc (suc n)) ≡ objects_below h n + 1
two-more h n there none =
    let last : objects_below h n + 1 + 0 ≡ objects_below h n + 1 = omega arith in
    ap₂ (λ (a b : Bool). objects_below h n + cond a 1 0 + cond b 1 0) there (ap (λ (x : Option Object). is_some x) none) ∙ last

run : (h : Heap) (base count : ℕ) → ((i : ℕ) → i < count → is_some (h.at (base + 2 * i)) ≡ true) → ((i : ℕ) → i < count → h.at (suc (base + 2 * i)) ≡ None) → objects_below h (base + 2 * count) ≡ objects_below h base + count
run h base zero there none =
    let first : base + 2 * 0 ≡ base = omega arith in
    let last : objects_below h base ≡ objects_below h base + 0 = omega arith in
    ap (objects_below h) first ∙ last
run h base (suc count) there none =
    let first : base + 2 * suc count ≡ suc (suc (base + 2 * count)) = omega arith in
    let last : (objects_below h base + count) + 1 ≡ objects_below h base + suc count = omega arith in
    ap (objects_below h) first
    ∙ two-more h (base + 2 * count) (there count (omega arith)) (none count (omega arith))
    ∙ ap (λ (k : ℕ). k + 1) (run h base count (λ i low. there i (omega arith)) (λ i low. none i (omega arith)))
    ∙ last

-- two runs, one behind the other
two-runs : (h : Heap) (base first second total below : ℕ) → objects_below h base ≡ below
    → ((i : ℕ) → i < first → is_some (h.at (base + 2 * i)) ≡ true) → ((i : ℕ) → i < first → h.at (suc (base + 2 * i)) ≡ None)
    → (middle : ℕ) → middle ≡ base + 2 * first
    → ((i : ℕ) → i < second → is_some (h.at (middle + 2 * i)) ≡ true) → ((i : ℕ) → i < second → h.at (suc (middle + 2 * i)) ≡ None)
    → total ≡ below + first + second → objects_below h (middle + 2 * second) ≡ total
two-runs h base first second total below start there none middle is there-next none-next sum =
    run h middle second there-next none-next
    ∙ ap (λ (n : ℕ). objects_below h n + second) is
    ∙ ap (λ (k : ℕ). k + second) (run h base first there none)
    ∙ ap (λ (k : ℕ). k + first + second) start
    ∙ sym sum

odd-behind : (number base i : ℕ) → base % 2 ≡ 0 → object_named number (suc (base + 2 * i)) ≡ None
odd-behind number base i even = odd-at number (suc (base + 2 * i)) (omega arith)

pub count-is : (number : ℕ) → object_count (generated number) ≡ 327 + node_count number
unfolding object_count
count-is number =
    two-runs (generated number) FIRST_CHARACTER CHARACTERS (node_count number) (327 + node_count number) 71
    (below-table number FIRST_CHARACTER (omega arith) ∙ table-entries number)
    (λ i low. ap (λ (x : Option Object). is_some x) (character-at number i low)) (λ i low. odd-behind number FIRST_CHARACTER i refl)
    FIRST_NODE refl
    (λ i low. ap (λ (x : Option Object). is_some x) (node-at number i low)) (λ i low. odd-behind number FIRST_NODE i refl)
    (omega arith)
