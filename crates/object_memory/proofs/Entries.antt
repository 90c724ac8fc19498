-- A heap as the list of its entries, by rising name.
use Rattle.std.proofs.Common.{zero, suc, ◌≡◌, ◌≢◌, ℕ, ◌+◌, ◌<◌, ◌≤◌, nat_lt, Bool, true, false, List, [], ◌∷◌, ◌++◌, length, Option, Some, None, refl, sym, ◌∙◌, ap, subst, arith, ◌⊎◌, inl, inr, ⊎_elim}
use Rattle.std.proofs.lemmas.Grind.{common_steps}
use Rattle.std.proofs.lemmas.Bool.{cases_lt, cases_eq}
use Rattle.std.proofs.lemmas.List.Sums.{sum_by_push}
use Rattle.std.proofs.lemmas.Map.Keys.{sorted_head, sorted_tail}
use Rattle.std.specs.declared.cmp.Ordering.TheVariants.{Less, Equal, Greater}
use Rattle.std.specs.Ordering.{nat_cmp}
use Rattle.std.specs.Cmp.{nat_cmp_is, ranked}
use Rattle.std.specs.Option.{option_map_or}
use Rattle.std.specs.List.{filter, sum_by, AllByRecursion}
use Rattle.std.specs.Map.{lookup, keys_of}
use Rattle.std.specs.BTreeMap.{BTreeMap, is_at, get, IsOrdered}
use Rattle.std.specs.List.Sorted.{IsStrictlySortedBy}
use Rattle.long_names.specs.Objects.{holdings}
use Rattle.long_names.specs.Heap.{Heap, holdings_below}
use Rattle.long_names.specs.declared.object.Object.{Object}

-- each name of the entries is below this one
abbrev pub AreBelow : {X : Type 0} → ℕ → List (ℕ × X) → Type 0
AreBelow n [] = Unit {0}
AreBelow n (e ∷ es) = (e.0 < n) × AreBelow n es

-- names rise, from low on
abbrev pub Rises : {X : Type 0} → ℕ → List (ℕ × X) → Type 0
Rises low [] = Unit {0}
Rises low (e ∷ es) = (low ≤ e.0) × Rises (e.0 + 1) es

-- what the entries have at a name
abbrev pub found : {X : Type 0} → List (ℕ × X) → ℕ → Option X
found es q = lookup (is_at (nat_cmp q)) es

-- the entry of a function at n
abbrev pub entry_at : {X : Type 0} → (ℕ → Option X) → ℕ → List (ℕ × X)
entry_at f n = option_map_or (λ o. (n, o) ∷ []) (f n) []

-- the entries of a function below n, by rising number
abbrev pub entries_below : {X : Type 0} → (ℕ → Option X) → ℕ → List (ℕ × X)
entries_below f zero = []
entries_below f (suc n) = entries_below f n ++ entry_at f n

abbrev pub under : {X : Type 0} → ℕ → ℕ × X → Bool
under n e = nat_lt e.0 n

-- ---- look-ups

less : (a b : ℕ) → a < b → nat_cmp a b ≡ Less
less a b h = sym (nat_cmp_is a b Less h)

greater : (a b : ℕ) → b < a → nat_cmp a b ≡ Greater
greater a b h = sym (nat_cmp_is a b Greater h)

equal : (a : ℕ) → nat_cmp a a ≡ Equal
equal a = sym (nat_cmp_is a a Equal refl)

pub found-above : {X : Type 0} (q : ℕ) (e : ℕ × X) (es : List (ℕ × X)) → e.0 < q → found (e ∷ es) q ≡ found es q
found-above q e es h = grind (arith, common_steps)

pub found-under : {X : Type 0} (q : ℕ) (e : ℕ × X) (es : List (ℕ × X)) → q < e.0 → found (e ∷ es) q ≡ found es q
found-under q e es h = grind (arith, common_steps)

pub found-here : {X : Type 0} (e : ℕ × X) (es : List (ℕ × X)) → found (e ∷ es) e.0 ≡ Some e.1
found-here e es = grind (arith, common_steps)

pub found-low : {X : Type 0} (q low : ℕ) (es : List (ℕ × X)) → Rises low es → q < low → found es q ≡ None
found-low q low [] r h = refl
found-low q low (e ∷ es) r h = found-under q e es (let a = r.0 in omega arith) ∙ found-low q (e.0 + 1) es r.1 (let a = r.0 in omega arith)

pub rises-lower : {X : Type 0} (low high : ℕ) (es : List (ℕ × X)) → low ≤ high → Rises high es → Rises low es
rises-lower low high [] h r = tt
rises-lower low high (e ∷ es) h r = (let a = r.0 in omega arith, r.1)

filter-low : {X : Type 0} (n low : ℕ) (es : List (ℕ × X)) → Rises low es → n ≤ low → filter (under n) es ≡ []
filter-low n low [] r h = refl
filter-low n low (e ∷ es) r h =
    let a = r.0 in
    let rest = filter-low n (e.0 + 1) es r.1 (omega arith) in
    let no : nat_lt e.0 n ≡ false = grind (arith, common_steps) in
    rw no rest

More : {X : Type 0} → ℕ → List (ℕ × X) → Type 0
More n es = filter (under (suc n)) es ≡ filter (under n) es ++ entry_at (found es) n

more-before : {X : Type 0} (n : ℕ) (e : ℕ × X) (es : List (ℕ × X)) → e.0 < n → More n es → More n (e ∷ es)
unfolding More
more-before n e es h more =
    let yes : nat_lt e.0 n ≡ true = grind (arith, common_steps) in
    let also : nat_lt e.0 (suc n) ≡ true = grind (arith, common_steps) in
    rw (yes, also, found-above n e es h) (ap (λ xs. e ∷ xs) more)

more-here : {X : Type 0} (n : ℕ) (e : ℕ × X) (es : List (ℕ × X)) → Rises (e.0 + 1) es → e.0 ≡ n → More n (e ∷ es)
unfolding More
more-here {X} n e es r h =
    let no : nat_lt e.0 n ≡ false = grind (arith, common_steps) in
    let also : nat_lt e.0 (suc n) ≡ true = grind (arith, common_steps) in
    let is : found (e ∷ es) n ≡ Some e.1 = subst (λ k. found (e ∷ es) k ≡ Some e.1) h (found-here e es) in
    rw (no, also, is, filter-low n (e.0 + 1) es r (omega arith), filter-low (suc n) (e.0 + 1) es r (omega arith))
    (ap (λ k. let x : ℕ × X = (k, e.1) in x ∷ []) h)

more-after : {X : Type 0} (n : ℕ) (e : ℕ × X) (es : List (ℕ × X)) → Rises (e.0 + 1) es → n < e.0 → More n (e ∷ es)
unfolding More
more-after n e es r h =
    let no : nat_lt e.0 n ≡ false = grind (arith, common_steps) in
    let also : nat_lt e.0 (suc n) ≡ false = grind (arith, common_steps) in
    let is : found (e ∷ es) n ≡ None = found-under n e es h ∙ found-low n (e.0 + 1) es r (omega arith) in
    rw (no, also, is, filter-low n (e.0 + 1) es r (omega arith), filter-low (suc n) (e.0 + 1) es r (omega arith)) refl

filter-more : {X : Type 0} (n low : ℕ) (es : List (ℕ × X)) → Rises low es → More n es
filter-more n low [] r = unfold More in refl
filter-more n low (e ∷ es) r =
    ⊎_elim (λ (h : e.0 < n). more-before n e es h (filter-more n (e.0 + 1) es r.1))
    (λ (h : n ≤ e.0). ⊎_elim (λ (same : e.0 ≡ n). more-here n e es r.1 same) (λ (apart : e.0 ≢ n). more-after n e es r.1 (omega arith)) (cases_eq e.0 n))
    (cases_lt e.0 n)

below-found : {X : Type 0} (n low : ℕ) (es : List (ℕ × X)) → Rises low es → entries_below (found es) n ≡ filter (under n) es
below-found zero low es r = sym (filter-low zero low es r (omega arith))
below-found (suc n) low es r = ap (λ xs. xs ++ entry_at (found es) n) (below-found n low es r) ∙ (let more = filter-more n low es r in unfold More in sym more)

filter-all : {X : Type 0} (n : ℕ) (es : List (ℕ × X)) → AreBelow n es → filter (under n) es ≡ es
filter-all n [] b = refl
filter-all n (e ∷ es) b =
    let first = b.0 in
    let yes : nat_lt e.0 n ≡ true = grind (arith, common_steps) in
    rw yes (ap (λ xs. e ∷ xs) (filter-all n es b.1))

-- entries in order, all below n, are what a look-up in them finds below n
pub entries-found : {X : Type 0} (n low : ℕ) (es : List (ℕ × X)) → Rises low es → AreBelow n es → entries_below (found es) n ≡ es
entries-found n low es r b = below-found n low es r ∙ filter-all n es b

length-rises : {X : Type 0} (n low : ℕ) (es : List (ℕ × X)) → Rises low es → AreBelow n es → length es + low ≤ n ⊎ length es ≡ 0
length-rises n low [] r b = inr refl
length-rises n low (e ∷ es) r b =
    let a = r.0 in
    let first = b.0 in
    ⊎_elim (λ (h : length es + (e.0 + 1) ≤ n). inl (omega arith)) (λ (h : length es ≡ 0). inl (omega arith)) (length-rises n (e.0 + 1) es r.1 b.1)

-- at most n names stand below n
pub length-le : {X : Type 0} (n low : ℕ) (es : List (ℕ × X)) → Rises low es → AreBelow n es → length es ≤ n
length-le n low es r b = ⊎_elim (λ (h : length es + low ≤ n). omega arith) (λ (h : length es ≡ 0). omega arith) (length-rises n low es r b)

-- ---- maps

above-from : (low : ℕ) (ks : List ℕ) → AllByRecursion (λ y. nat_cmp low y ≡ Less) ks → AllByRecursion (λ y. low + 1 ≤ y) ks
above-from low [] a = tt
above-from low (k ∷ ks) a = (let h : low < k = ranked low k Less (sym a.0) in omega arith, above-from low ks a.1)

rises-from : {X : Type 0} (low : ℕ) (es : List (ℕ × X)) → AllByRecursion (λ y. low ≤ y) (keys_of es) → IsStrictlySortedBy nat_cmp (keys_of es) → Rises low es
rises-from low [] a s = tt
rises-from low (e ∷ es) a s = (a.0, rises-from (e.0 + 1) es (above-from e.0 (keys_of es) (sorted_head nat_cmp e.0 (keys_of es) s)) (sorted_tail nat_cmp e.0 (keys_of es) s))

from-zero : (ks : List ℕ) → AllByRecursion (λ y. 0 ≤ y) ks
from-zero [] = tt
from-zero (k ∷ ks) = (omega arith, from-zero ks)

-- the entries of a map rise
pub map-rises : {X : Type 0} (m : BTreeMap ℕ X) → IsOrdered nat_cmp m → Rises 0 m.entries
map-rises m s = rises-from 0 m.entries (from-zero (keys_of m.entries)) s

below-from : {X : Type 0} (n low : ℕ) (es : List (ℕ × X)) → Rises low es → ((q : ℕ) (x : X) → found es q ≡ Some x → q < n) → AreBelow n es
below-from n low [] r h = tt
below-from {X} n low (e ∷ es) r h = (h e.0 e.1 (found-here e es), below-from n (e.0 + 1) es r.1 rest)
  where
    rest : (q : ℕ) (x : X) → found es q ≡ Some x → q < n
    rest q x is = ⊎_elim (λ (a : q < e.0 + 1). let none = found-low q (e.0 + 1) es r.1 a in absurd (cc)) (λ (a : e.0 + 1 ≤ q). h q x (found-above q e es (omega arith) ∙ is)) (cases_lt q (e.0 + 1))

-- and all stand below the next name
pub map-below : {X : Type 0} (m : BTreeMap ℕ X) (n : ℕ) → IsOrdered nat_cmp m → ((q : ℕ) (x : X) → get nat_cmp m q ≡ Some x → q < n) → AreBelow n m.entries
map-below m n s h = below-from n 0 m.entries (map-rises m s) h

-- ---- heaps

-- the entries of a heap
abbrev pub entries : Heap → List (ℕ × Object)
entries h = entries_below h.at h.next

abbrev pub words_of : ℕ → ℕ × Object → ℕ
words_of name e = holdings e.1 name

pub holdings-entries : (h : Heap) (name n : ℕ) → holdings_below h n name ≡ sum_by (words_of name) (entries_below h.at n)
holdings-entries h name zero = refl
holdings-entries h name (suc n) = rw (holdings-entries h name n) (one (entries_below h.at n) (h.at n))
  where
    one : (es : List (ℕ × Object)) (o : Option Object) → sum_by (words_of name) es + option_map_or (λ (o : Object). holdings o name) o 0 ≡ sum_by (words_of name) (es ++ option_map_or (λ o. (n, o) ∷ []) o [])
    one es None = grind (arith, common_steps)
    one es (Some o) = sym (sum_by_push (words_of name) es (n, o))
