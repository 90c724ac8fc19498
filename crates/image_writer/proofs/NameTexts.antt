-- The records of a heap, one for each of its names in order.
use Rattle.std.proofs.Common.{◌≡◌, ℕ, zero, suc, ◌+◌, ◌<◌, ◌≤◌, Bool, true, false, cond, eqb, ltb, ◌||◌, ◌&&◌, List, [], ◌∷◌, ◌++◌, length, map as mapped, Option, Some, None, is_some, refl, sym, ap, ap₂, ◌∙◌, length-append, arith, inl, inr}
use Rattle.std.specs.Prelude.{All, T}
use Rattle.std.specs.List.{list_any, flat_map, filter}
use Rattle.std.specs.Option.{option_map_or}
use Rattle.std.specs.FinMap as map
use Rattle.std.specs.FinMap.{is_sorted}
use Rattle.std.specs.FinMap.Entries.{below_all, is_some-find}
use Rattle.std.specs.Ordering.{nat_cmp, eq_by_cmp, is_lt}
use Rattle.std.proofs.lemmas.Bool.{cases_lt, cases_eq, lt-ltb, le-ltb, eq-eqb, ne_eqb}
use Rattle.std.proofs.lemmas.Grind.{common_steps, flat_map-append}
use Rattle.std.proofs.lemmas.List.{append-nil}
use Rattle.std.proofs.lemmas.List.Elements.{All-nil, All-cons}
use Rattle.long_names.specs.Heap.{Heap, Has, IsBounded, objects_below, object_count, rec_of}
use Rattle.long_names.specs.Record.{record_text}
use Rattle.long_names.specs.declared.object.Object.{Object}
use Rattle.image_format.specs.Text.{records_below}
use Rattle.image_writer.specs.Puts.{name_text}

-- ---- names in order

abbrev pub any : ℕ → List ℕ → Bool
any n ks = list_any (λ k. eqb n k) ks

abbrev pub Rises : ℕ → List ℕ → Type 0
Rises low [] = Unit {0}
Rises low (k ∷ ks) = (low ≤ k) × Rises (suc k) ks

abbrev front : ℕ → List ℕ → List ℕ
front n ks = filter (λ k. ltb k n) ks

abbrev one : Bool → ℕ → List ℕ
one b n = cond b (n ∷ []) []

or_right : (a b : Bool) → b ≡ true → (a || b) ≡ true
or_right true b e = refl
or_right false b e = e

front_low : (n low : ℕ) (ks : List ℕ) → Rises low ks → n ≤ low → front n ks ≡ []
front_low n low [] rises le = refl
front_low n low (k ∷ ks) rises le =
    let above = rises.0 in
    let out : ltb k n ≡ false = le-ltb _ _ (omega (arith, above, le)) in
    rw out (front_low n (suc k) ks rises.1 (omega (arith, above, le)))

any_low : (n low : ℕ) (ks : List ℕ) → Rises low ks → n < low → any n ks ≡ false
any_low n low [] rises lt = refl
any_low n low (k ∷ ks) rises lt =
    let above = rises.0 in
    let out : eqb n k ≡ false = ne_eqb _ _ (λ e. omega (arith, e, above, lt)) in
    rw out (any_low n (suc k) ks rises.1 (omega (arith, above, lt)))

front_more : (n low : ℕ) (ks : List ℕ) → Rises low ks → front (suc n) ks ≡ front n ks ++ one (any n ks) n
front_more n low [] rises = refl
front_more n low (k ∷ ks) rises = elim (cases_lt k n) [
  | inl lt ↦
      let within : ltb k n ≡ true = lt-ltb _ _ lt in
      let also : ltb k (suc n) ≡ true = lt-ltb _ _ (omega (arith, lt)) in
      let other : eqb n k ≡ false = ne_eqb _ _ (λ e. omega (arith, e, lt)) in
      rw (within, also, other) (ap (λ (xs : List ℕ). k ∷ xs) (front_more n (suc k) ks rises.1))
  | inr le ↦ elim (cases_eq k n) [
    | inl same ↦
        let out : ltb k n ≡ false = le-ltb _ _ le in
        let also : ltb k (suc n) ≡ true = lt-ltb _ _ (omega (arith, same)) in
        let here : eqb n k ≡ true = eq-eqb _ _ (sym same) in
        rw (out, also, here, front_low n (suc k) ks rises.1 (omega (arith, same)), front_low (suc n) (suc k) ks rises.1 (omega (arith, same))) (ap (λ (i : ℕ). i ∷ []) same)
    | inr apart ↦
        let above : n < k = omega (arith, le, apart) in
        let out : ltb k n ≡ false = le-ltb _ _ le in
        let also : ltb k (suc n) ≡ false = le-ltb _ _ (omega (arith, above)) in
        let other : eqb n k ≡ false = ne_eqb _ _ (λ e. omega (arith, e, above)) in
        rw (out, also, other, front_low n (suc k) ks rises.1 (omega (arith, above)), front_low (suc n) (suc k) ks rises.1 (omega (arith, above)), any_low n (suc k) ks rises.1 (omega (arith, above))) refl
  ]
]

front_none : (ks : List ℕ) → front 0 ks ≡ []
front_none [] = refl
front_none (k ∷ ks) = let out : ltb k 0 ≡ false = le-ltb _ _ (omega arith) in rw out (front_none ks)

front_all : (n : ℕ) (ks : List ℕ) → ((k : ℕ) → any k ks ≡ true → k < n) → front n ks ≡ ks
front_all n [] below = refl
front_all n (k ∷ ks) below =
    let here : eqb k k ≡ true = eq-eqb k k refl in
    let within : ltb k n ≡ true = lt-ltb _ _ (below k (ap (λ (b : Bool). b || any k ks) here)) in
    rw within (ap (λ (xs : List ℕ). k ∷ xs) (front_all n ks (λ q is. below q (or_right (eqb q k) (any q ks) is))))

-- ---- the names of a heap

pub record AreNames (h : Heap) (ks : List ℕ) : Type 0 where
  pub rises : Rises 0 ks
  pub are : (n : ℕ) → any n ks ≡ is_some (h.at n)

-- A text for each name, which is empty where no object is, and the texts of all names below a number, one behind the other.
pub record AreTexts (h : Heap) (text below : ℕ → List ℕ) : Type 0 where
  pub none : (n : ℕ) → h.at n ≡ None → text n ≡ []
  pub start : below 0 ≡ []
  pub more : (n : ℕ) → below (suc n) ≡ below n ++ text n

-- the text of a name that is there or not
one_text : (text : ℕ → List ℕ) (n : ℕ) (o : Option Object) (b : Bool) → (o ≡ None → text n ≡ []) → b ≡ is_some o → text n ≡ flat_map text (one b n)
one_text text n None true none is = let clash : ◌≡◌ {A = Bool} true false = is in absurd (cc)
one_text text n None false none is = none refl
one_text text n (Some o) true none is = sym (append-nil (text n))
one_text text n (Some o) false none is = let clash : ◌≡◌ {A = Bool} false true = is in absurd (cc)

texts : (h : Heap) (ks : List ℕ) (text below : ℕ → List ℕ) → AreNames h ks → AreTexts h text below → (n : ℕ) → below n ≡ flat_map text (front n ks)
texts h ks text below names are zero = are.start ∙ ap (flat_map text) (sym (front_none ks))
texts h ks text below names are (suc n) =
    are.more n
    ∙ ap (λ (s : List ℕ). s ++ text n) (texts h ks text below names are n)
    ∙ ap (λ (s : List ℕ). flat_map text (front n ks) ++ s) (one_text text n (h.at n) (any n ks) (are.none n) (names.are n))
    ∙ sym (flat_map-append text (front n ks) (one (any n ks) n))
    ∙ ap (flat_map text) (sym (front_more n 0 ks names.rises))

counts : (h : Heap) (ks : List ℕ) → AreNames h ks → (n : ℕ) → objects_below h n ≡ length (front n ks)
counts h ks names zero = ap (λ (xs : List ℕ). length xs) (sym (front_none ks))
counts h ks names (suc n) =
    ap (λ (k : ℕ). k + cond (is_some (h.at n)) 1 0) (counts h ks names n)
    ∙ ap (λ (b : Bool). length (front n ks) + cond b 1 0) (sym (names.are n))
    ∙ step (any n ks)
    ∙ ap (λ (xs : List ℕ). length xs) (sym (front_more n 0 ks names.rises))
  where
    step : (b : Bool) → length (front n ks) + cond b 1 0 ≡ length (front n ks ++ one b n)
    step true = sym (length-append (front n ks) (n ∷ []))
    step false = sym (length-append (front n ks) [])

below_next : (h : Heap) (ks : List ℕ) → AreNames h ks → IsBounded h → (k : ℕ) → any k ks ≡ true → k < h.next
below_next h ks names bounded k is = elim (cases_lt k h.next) [
  | inl lt ↦ lt
  | inr le ↦ (let clash : ◌≡◌ {A = Bool} true false = sym is ∙ names.are k ∙ ap is_some (bounded.bounded k le) in absurd (cc))
]

-- the texts of all names are those of the names that are there
pub texts_of : (h : Heap) (ks : List ℕ) (text below : ℕ → List ℕ) → AreNames h ks → IsBounded h → AreTexts h text below → below h.next ≡ flat_map text ks
texts_of h ks text below names bounded are = texts h ks text below names are h.next ∙ ap (flat_map text) (front_all h.next ks (below_next h ks names bounded))

-- the records of a heap are those of its names
pub texts_are : (h : Heap) (ks : List ℕ) → AreNames h ks → IsBounded h → records_below h h.next ≡ flat_map (name_text h) ks
texts_are h ks names bounded = texts_of h ks (name_text h) (records_below h) names bounded (record {
  none = λ n e. ap (λ (o : Option Object). option_map_or (λ (o : Object). record_text (rec_of h n o)) o []) e;
  start = refl;
  more = λ n. refl;
})

-- and there are as many
pub counts_are : (h : Heap) (ks : List ℕ) → AreNames h ks → IsBounded h → object_count h ≡ length ks
unfolding object_count
counts_are h ks names bounded = counts h ks names h.next ∙ ap (λ (xs : List ℕ). length xs) (front_all h.next ks (below_next h ks names bounded))

-- it has each of them
pub all_there : (h : Heap) (ks : List ℕ) → ((n : ℕ) → any n ks ≡ true → Has h n) → All (Has h) ks
all_there h [] each = All-nil (Has h)
all_there h (k ∷ ks) each = All-cons (Has h) k ks (each k (ap (λ (b : Bool). b || any k ks) (eq-eqb k k refl))) (all_there h ks (λ n is. each n (or_right (eqb n k) (any n ks) is)))

-- ---- the keys of a map

first_true : (a b : Bool) → T (a && b) → (a ≡ true) × T b
first_true true b t = (refl, t)
first_true false b t = absurd t

both_true : (a b : Bool) → T (a && b) → T a × T b
both_true true b t = (tt, t)
both_true false b t = absurd t

less_is : (a b : ℕ) → is_lt (nat_cmp a b) ≡ true → a < b
less_is a b e = grind (arith, common_steps)

keys_rise : {A : Type 0} (low : ℕ) (es : List (ℕ × A)) → T (below_all nat_cmp low es) → T (is_sorted nat_cmp es) → Rises (suc low) (mapped (λ (e : ℕ × A). e.0) es)
keys_rise low [] b s = tt
keys_rise low (e ∷ es) b s =
    let first = first_true (is_lt (nat_cmp low e.0)) (below_all nat_cmp low es) b in
    let rest = both_true (below_all nat_cmp e.0 es) (is_sorted nat_cmp es) s in
    (less_is low e.0 first.0, keys_rise e.0 es rest.0 rest.1)

entries_rise : {A : Type 0} (es : List (ℕ × A)) → T (is_sorted nat_cmp es) → Rises 0 (mapped (λ (e : ℕ × A). e.0) es)
entries_rise [] s = tt
entries_rise (e ∷ es) s =
    let two = both_true (below_all nat_cmp e.0 es) (is_sorted nat_cmp es) s in
    (omega arith, keys_rise e.0 es two.0 two.1)

pub map_rises : {A : Type 0} (m : map.FinMap nat_cmp A) → Rises 0 (map.keys m)
map_rises m = entries_rise (map.entries m) (map.entries_sorted m)

any_key : (q : ℕ) (ks : List ℕ) → any q ks ≡ list_any (eq_by_cmp nat_cmp q) ks
any_key q [] = refl
any_key q (k ∷ ks) =
    let same : eqb q k ≡ eq_by_cmp nat_cmp q k = grind (arith, common_steps) in
    ap₂ (λ (a b : Bool). a || b) same (any_key q ks)

pub keys_are : {A : Type 0} (m : map.FinMap nat_cmp A) (q : ℕ) → any q (map.keys m) ≡ is_some (map.get m q)
keys_are m q = any_key q (map.keys m) ∙ sym (is_some-find nat_cmp q (map.entries m)) ∙ ap is_some (sym (map.get-entries m q))
