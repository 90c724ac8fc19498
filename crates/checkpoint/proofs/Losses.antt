-- What lost ranges leave.
use Rattle.std.proofs.Common.{◌≡◌, ◌⊎◌, inl, inr, ℕ, ◌+◌, ◌-◌, ◌<◌, ◌≤◌, ◌&&◌, min, Bool, true, false, not, cond, List, [], ◌∷◌, ◌++◌, length, get_or, take, drop, replicate, refl, sym, ap, ◌∙◌, arith}
use Rattle.std.proofs.lemmas.Grind.{elements, common_steps}
use Rattle.std.proofs.lemmas.Bool.Decides.{nat_tests}
use Rattle.std.proofs.lemmas.List.{ext_get_or, get_or_past}
use Rattle.std.proofs.lemmas.List.FromFn.{length-map-range_with_len, get_or-map-range_with_len}
use Rattle.checkpoint.specs.Torn.{torn}
use Rattle.checkpoint.specs.Vault.{Span, Run, is_in, is_synced}

inside_or_out : (at b k : ℕ) → ((at ≤ k) × (k < at + b)) ⊎ ((k < at) ⊎ (at + b ≤ k))
inside_or_out at b k = grind arith

pub length-torn : (spans : List Span) (fill : ℕ) (w : List ℕ) → length (torn spans fill w) ≡ length w
unfolding torn
length-torn spans fill w = length-map-range_with_len (λ i. cond (is_synced spans i) (get_or w i 0) fill) 0 (length w)

pub get_or-torn : (spans : List Span) (fill : ℕ) (w : List ℕ) (k : ℕ) → k < length w → get_or (torn spans fill w) k 0 ≡ cond (is_synced spans k) (get_or w k 0) fill
unfolding torn
get_or-torn spans fill w k below = get_or-map-range_with_len (λ i. cond (is_synced spans i) (get_or w i 0) fill) 0 (length w) k k 0 below (omega arith)

pub torn-by_bytes : (spans : List Span) (fill : ℕ) (w v : List ℕ) → length v ≡ length w → ((k : ℕ) → k < length w → get_or v k 0 ≡ cond (is_synced spans k) (get_or w k 0) fill) → v ≡ torn spans fill w
torn-by_bytes spans fill w v sized each =
    ext_get_or 0 _ _ (sized ∙ sym (length-torn spans fill w)) (λ k h.
    let below : k < length w = rw sized at h in each k below ∙ sym (get_or-torn spans fill w k below))

pub torn-none : (fill : ℕ) (w : List ℕ) → w ≡ torn [] fill w
torn-none fill w = torn-by_bytes [] fill w w refl (λ k below. refl)

and_cond : (a b : Bool) (x y : ℕ) → cond (a && true) (cond b x y) y ≡ cond (a && b) x y
and_cond true b x y = refl
and_cond false b x y = refl

-- one range more
pub torn-more : (span : Span) (spans : List Span) (fill : ℕ) (w : List ℕ) → torn (span ∷ []) fill (torn spans fill w) ≡ torn (span ∷ spans) fill w
torn-more span spans fill w =
    torn-by_bytes (span ∷ spans) fill w (torn (span ∷ []) fill (torn spans fill w)) (length-torn (span ∷ []) fill (torn spans fill w) ∙ length-torn spans fill w) (λ k below.
    get_or-torn (span ∷ []) fill (torn spans fill w) k (let long = length-torn spans fill w in omega arith)
    ∙ ap (λ x. cond (not (is_in k span) && true) x fill) (get_or-torn spans fill w k below)
    ∙ and_cond (not (is_in k span)) (is_synced spans k) (get_or w k 0) fill)

-- a range, from its place on, or where the bytes end
filled_inside : (w : List ℕ) (from n fill k : ℕ) → from + n ≤ length w → from ≤ k → k < from + n → get_or (take from w ++ (replicate n fill ++ drop (from + n) w)) k 0 ≡ fill
filled_inside w from n fill k fits low high = grind (arith, elements)

filled_outside : (w : List ℕ) (from n fill k : ℕ) → from + n ≤ length w → (k < from) ⊎ (from + n ≤ k) → get_or (take from w ++ (replicate n fill ++ drop (from + n) w)) k 0 ≡ get_or w k 0
filled_outside w from n fill k fits out = grind (arith, elements, get_or_past {X = ℕ})

in_run : (place len k x y : ℕ) → place ≤ k → k < place + len → cond (not (is_in k (Run place len)) && true) x y ≡ y
in_run place len k x y low high = grind (arith, nat_tests)

out_of_run : (place len k x y : ℕ) → (k < place) ⊎ (place + len ≤ k) → cond (not (is_in k (Run place len)) && true) x y ≡ x
out_of_run place len k x y out = grind (arith, nat_tests)

pub torn-filled : (w v : List ℕ) (place len from n fill : ℕ) → from ≡ min place (length w) → n ≡ min len (length w - from) → v ≡ take from w ++ (replicate n fill ++ drop (from + n) w) → v ≡ torn (Run place len ∷ []) fill w
torn-filled w v place len from n fill first most is =
    let fits : from + n ≤ length w = omega arith in
    is ∙ torn-by_bytes (Run place len ∷ []) fill w _ (grind (arith, common_steps)) (λ k below. elim (inside_or_out from n k) [
      | inl within ↦ filled_inside w from n fill k fits within.0 within.1 ∙ sym (in_run place len k (get_or w k 0) fill (let low = within.0 in let high = within.1 in omega arith) (let low = within.0 in let high = within.1 in omega arith))
      | inr out ↦ filled_outside w from n fill k fits out ∙ sym (out_of_run place len k (get_or w k 0) fill (elim out [ inl low ↦ inl (omega arith) | inr high ↦ inr (omega arith) ]))
    ])
