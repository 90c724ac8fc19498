-- What a search finds among objects by rising name.
use Rattle.std.proofs.Common.{◌≡◌, ℕ, zero, suc, ◌-◌, ◌<◌, ◌≤◌, ◌≢◌, List, [], ◌∷◌, ◌++◌, Option, ◌∙◌, length, slice_get, Some, None, Result, Ok, Err, IfOk, IfErr, refl, sym, ap, arith}
use Rattle.std.proofs.lemmas.Option.{get_or_from_slice_get}
use Rattle.std.specs.List.Sorted.{IsSearchInRange, IsBinarySearchResult, IsNonDecreasingBy}
use Rattle.std.specs.Ordering.{nat_cmp, ordering_index}
use Rattle.std.proofs.lemmas.Cmp.{ranked}
use Rattle.std.proofs.lemmas.Bool.Decides.{nat_tests}
use Rattle.long_names.specs.declared.object.Rec.{Rec}
use Rattle.image_format.specs.Rules.{rec_in}
use Rattle.st80_objects.specs.Rising.{name_at, IsRising, IsAbove, IsAt, last_name}

-- no object before place i has the name
abbrev NoneBefore : List Rec → ℕ → ℕ → Type 0
NoneBefore l n i = (j : ℕ) (d : Rec) → j < i → name_at l j d ≢ n

none_before_tail : (x : Rec) (l : List Rec) (n i : ℕ) → NoneBefore (x ∷ l) n (suc i) → NoneBefore l n i
none_before_tail x l n i none j d lt = none (suc j) d (omega arith)

is_at_tail : (x : Rec) (l : List Rec) (n i : ℕ) → IsAt (x ∷ l) n (suc i) → IsAt l n i
is_at_tail x l n i is_at = record { in_range = omega (arith, is_at.in_range); has_name = is_at.has_name }

-- a name that no object has is not found
not_there : (l : List Rec) (n : ℕ) → NoneBefore l n (length l) → rec_in l n ≡ None
not_there [] n none = refl
not_there (x ∷ l) n none = grind (arith, nat_tests, none 0 x (omega arith), not_there l n (none_before_tail x l n _ none))

-- the first object that has the name is found
present : (l : List Rec) (n i : ℕ) → IsAt l n i → NoneBefore l n i → slice_get l i ≡ rec_in l n
present [] n i is_at none = absurd (omega (arith, is_at.in_range))
present (x ∷ l) n zero is_at none = grind (arith, nat_tests, is_at.has_name x)
present (x ∷ l) n (suc i) is_at none = grind (arith, nat_tests, none 0 x (omega arith), present l n i (is_at_tail x l n i is_at) (none_before_tail x l n i none))

module _ (l : List Rec) (rising : IsRising l) (n : ℕ) where
  -- the comparisons with n rise along the list, as a binary search asks
  comparisons_rise : IsNonDecreasingBy (λ (r : Rec). ordering_index (nat_cmp r.name n)) l
  comparisons_rise i j d le in_range =
      let names_rise : name_at l i d ≤ name_at l j d = grind (arith, rising i j d, λ (same : i ≡ j). ap (λ i. name_at l i d) same) in
      grind (arith, nat_tests)

  -- a search by name ends at the object that has it, or where none has
  pub searched : (r : Result ℕ ℕ) → IsSearchInRange r (length l) → IsBinarySearchResult (λ (r : Rec). nat_cmp r.name n) l r → record { found : IfOk r (IsAt l n); first : IfOk r (λ i. slice_get l i ≡ rec_in l n); absent : IfErr r (λ i. rec_in l n ≡ None) }
  searched (Ok at) in_range equal =
      let is_at : IsAt l n at = record { in_range = in_range; has_name = λ d. ranked _ n _ (sym (equal d)) } in
      record { found = is_at; first = present l n at is_at (λ j d lt same. omega (arith, rising j at d lt in_range, is_at.has_name d)); absent = tt }
  searched (Err at) in_range parted = record {
    found = tt;
    first = tt;
    absent = not_there l n (λ j d lt same. grind (arith, nat_tests, same, (parted comparisons_rise).0 j d, (parted comparisons_rise).1 j d));
  }

-- the last object has the highest name
last_is_highest : (l : List Rec) → IsRising l → (r : Rec) → slice_get l (length l - 1) ≡ Some r → (n : ℕ) → r.name < n → IsAbove l n
last_is_highest l rising r last n below i d in_range =
    let is_last : name_at l (length l - 1) d ≡ r.name = ap (λ (r : Rec). r.name) (get_or_from_slice_get l (length l - 1) r d last) in
    grind (arith, rising i (length l - 1) d, λ (same : i ≡ length l - 1). ap (λ i. name_at l i d) same, is_last, below)

-- there is a last object where there is one
the_last : (x : Rec) (l : List Rec) → (r : Rec) × (slice_get (x ∷ l) (length l) ≡ Some r) × (last_name (x ∷ l) ≡ r.name)
the_last x [] = (x, refl, refl)
the_last x (y ∷ l) = let last = the_last y l in (last.0, last.1, last.2)

at_end : (x : Rec) (l : List Rec) → length (x ∷ l) - 1 ≡ length l
at_end x l = omega arith

pub name_of_last : (l : List Rec) (o : Option Rec) (r : Rec) → o ≡ slice_get l (length l - 1) → o ≡ Some r → last_name l ≡ r.name
name_of_last [] o r e is = let clash : ◌≡◌ {A = Option Rec} None (Some r) = sym e ∙ is in absurd (cc)
name_of_last (x ∷ l) o r e is =
    let last = the_last x l in
    let same : ◌≡◌ {A = Option Rec} (Some last.0) (Some r) = sym last.1 ∙ sym (ap (λ i. slice_get (x ∷ l) i) (at_end x l)) ∙ sym e ∙ is in
    let one : last.0 ≡ r = cc in
    last.2 ∙ ap (λ (r : Rec). r.name) one

pub above_last : (l : List Rec) → IsRising l → (n : ℕ) → last_name l < n → IsAbove l n
above_last [] rising n below = λ i d in_range. absurd (omega (arith, in_range))
above_last (x ∷ l) rising n below =
    let last = the_last x l in
    let is : slice_get (x ∷ l) (length (x ∷ l) - 1) ≡ Some last.0 = ap (λ i. slice_get (x ∷ l) i) (at_end x l) ∙ last.1 in
    last_is_highest (x ∷ l) rising last.0 is n (omega (arith, below, last.2))

-- an object that is added is the last
pub last_added : (l : List Rec) (r : Rec) → last_name (l ++ r ∷ []) ≡ r.name
last_added [] r = refl
last_added (x ∷ []) r = refl
last_added (x ∷ y ∷ l) r = last_added (y ∷ l) r
