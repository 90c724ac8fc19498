-- What is left of a quotient that is rounded down.
use Rattle.std.proofs.Common.{zero, suc, ◌≡◌, ℕ, ℤ, pos, negsuc, ◌-◌, ◌*◌, ◌+◌, ◌/◌, ◌%◌, ◌<◌, ◌+ℤ◌, ◌-ℤ◌, ◌*ℤ◌, Some, ◌∙◌, ap, arith}
use Rattle.std.proofs.Math.IntN.{neg_ℤ}
use Rattle.std.proofs.lemmas.Int.{ints}
use Rattle.std.specs.Int.{int_div_euclid}
use Rattle.blue_model.specs.Arithmetic.{rounded_down, remainder_down}
use Rattle.blue_model.specs.Base.{minus}

-- by a divisor above 0: from 0 on and below it
pub rest_above : (a : ℤ) (n : ℕ) → 0 < n → (k : ℕ) × (k < n) × (a -ℤ (int_div_euclid a (pos n) *ℤ pos n) ≡ pos k)
rest_above (pos m) n h = (m % n, omega arith, (let parts : m ≡ m / n * n + m % n = omega arith in omega (arith, ints)))
rest_above (negsuc m) n h = (n - 1 - m % n, (let low : m % n < n = omega arith in omega arith), (let parts : m ≡ m / n * n + m % n = omega arith in let low : m % n < n = omega arith in omega (arith, ints)))

negated : (q : ℤ) (n : ℕ) → q *ℤ negsuc n ≡ neg_ℤ (q *ℤ pos (suc n))
negated (pos q) n = omega (arith, ints)
negated (negsuc q) n = omega (arith, ints)

opposite : (a p z : ℤ) → neg_ℤ a -ℤ p ≡ z → a -ℤ neg_ℤ p ≡ neg_ℤ z
opposite a p z e = omega (arith, ints)

-- by one below 0: from 0 down and above it
pub rest_below : (a : ℤ) (n : ℕ) → (k : ℕ) × (k < suc n) × (a -ℤ (rounded_down a (negsuc n) *ℤ negsuc n) ≡ neg_ℤ (pos k))
rest_below a n =
    let it = rest_above (neg_ℤ a) (suc n) (omega arith) in
    let q : ℤ = int_div_euclid (neg_ℤ a) (pos (suc n)) in
    (it.0, it.1, ap (λ z. a -ℤ z) (negated q n) ∙ opposite a (q *ℤ pos (suc n)) (pos it.0) it.2)

-- ---- the law

whole : (a p z : ℤ) → a -ℤ p ≡ z → p +ℤ z ≡ a
whole a p z e = omega (arith, ints)

pub left_above : (a : ℤ) (n : ℕ) → 0 < n → (k : ℕ) × (k < n) × (remainder_down a (pos n) ≡ Some (pos k)) × ((rounded_down a (pos n) *ℤ pos n) +ℤ pos k ≡ a)
left_above a n h = (let it = rest_above a n h in (it.0, it.1, ap (λ z. Some z) it.2, whole a (int_div_euclid a (pos n) *ℤ pos n) (pos it.0) it.2))

pub left_below : (a : ℤ) (n : ℕ) → 0 < n → (k : ℕ) × (k < n) × (remainder_down a (minus n) ≡ Some (minus k)) × ((rounded_down a (minus n) *ℤ minus n) +ℤ minus k ≡ a)
left_below a zero h = absurd (omega arith)
left_below a (suc n) h = (let it = rest_below a n in (it.0, it.1, ap (λ z. Some z) it.2, whole a (rounded_down a (negsuc n) *ℤ negsuc n) (neg_ℤ (pos it.0)) it.2))
