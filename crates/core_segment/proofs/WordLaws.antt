-- The words of chunks in a region.
use Rattle.std.proofs.Common.{◌≡◌, ◌≢◌, ℕ, ◌+◌, ◌-◌, ◌<◌, ◌≤◌, List, length, get_or, drop, sym, ◌∙◌, subst, arith, ⊎_elim}
use Rattle.std.proofs.lemmas.Grind.{same_number_lists}
use Rattle.std.proofs.lemmas.Bool.{cases_eq}
use Rattle.std.proofs.lemmas.List.{get_or-take, get_or-drop, get_or-set_same, get_or-set_other, length-take, length-drop}
use Rattle.std.proofs.Math.ListN.{length-set}
use Rattle.std.specs.List.{slice_set, slice_range}

-- the words of a part
pub length-range : (r : List ℕ) (a b : ℕ) → b ≤ length r → length (slice_range r a b) ≡ b - a
length-range r a b low = omega (arith, length-take (b - a) (drop a r), length-drop a r)

pub range-at : (r : List ℕ) (a b i : ℕ) → a + i < b → get_or (slice_range r a b) i 0 ≡ get_or r (a + i) 0
range-at r a b i low = get_or-take (b - a) (drop a r) i 0 (omega arith) ∙ get_or-drop a r i 0

pub range-same : (r r' : List ℕ) (a a' b b' : ℕ) → b ≤ length r → b' ≤ length r' → b - a ≡ b' - a'
    → ((i : ℕ) → a + i < b → get_or r' (a' + i) 0 ≡ get_or r (a + i) 0) → slice_range r' a' b' ≡ slice_range r a b
range-same r r' a a' b b' low low' size same = same_number_lists _ _ (length-range r' a' b' low' ∙ sym size ∙ sym (length-range r a b low))
    (λ i h. let many = length-range r' a' b' low' in
    range-at r' a' b' i (omega arith) ∙ same i (omega arith) ∙ sym (range-at r a b i (omega arith)))

pub range-set : (r : List ℕ) (a b i w : ℕ) → b ≤ length r → a + i < b → slice_range (slice_set r (a + i) w) a b ≡ slice_set (slice_range r a b) i w
range-set r a b i w low inside = same_number_lists _ _
    (length-range (slice_set r (a + i) w) a b (subst (λ (z : ℕ). b ≤ z) (sym (length-set r (a + i) w)) low)
    ∙ sym (length-set (slice_range r a b) i w ∙ length-range r a b low))
    (λ j h. let many = length-range (slice_set r (a + i) w) a b (subst (λ (z : ℕ). b ≤ z) (sym (length-set r (a + i) w)) low) in
    range-at (slice_set r (a + i) w) a b j (omega arith) ∙ ⊎_elim
    (λ (e : j ≡ i). subst (λ (z : ℕ). get_or (slice_set r (a + i) w) (a + z) 0 ≡ get_or (slice_set (slice_range r a b) i w) z 0) (sym e)
    (get_or-set_same r (a + i) w 0 (omega arith) ∙ sym (get_or-set_same (slice_range r a b) i w 0 (omega (arith, length-range r a b low)))))
    (λ (e : j ≢ i). get_or-set_other r (a + i) (a + j) w 0 (λ f. e (omega arith))
    ∙ sym (range-at r a b j (omega arith)) ∙ sym (get_or-set_other (slice_range r a b) i j w 0 e))
    (cases_eq j i))
