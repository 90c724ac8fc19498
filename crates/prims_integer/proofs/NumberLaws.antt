-- Numbers as the code has them: in 16 bits, and in 32.
use Rattle.std.proofs.Common.{zero, suc, ◌≡◌, ℕ, ℤ, pos, negsuc, ◌<◌, ◌≤◌, ◌-ℤ◌, ◌*ℤ◌, refl, ◌∙◌, ap, arith}
use Rattle.std.proofs.Math.IntN.{neg_ℤ}
use mir.Syntax.{w16, w32}
use mir.Val.{to_z, of_z}
use Rattle.std.proofs.lemmas.Int.{ints, to_z-of_z, fits_signed_from_abs}
use Rattle.std.specs.Int.RustNames.{FitsSigned, unsigned_abs}
use Rattle.long_names.specs.Words.{IsSmallInteger}
use Rattle.object_memory.proofs.ShapeLaws.{small_number}
use Rattle.blue_model.specs.Arithmetic.{rounded_down}
use Rattle.blue_model.proofs.RemainderLaws.{rest_above, rest_below}

pub small_size : (a : ℤ) → IsSmallInteger a → unsigned_abs a ≤ 16384
small_size (pos n) small = omega arith
small_size (negsuc n) small = omega arith

pub wide : (z a : ℤ) → z ≡ to_z w16 (of_z w16 a) → IsSmallInteger a → to_z w32 (of_z w32 z) ≡ a
wide z a e small = ap (λ x. to_z w32 (of_z w32 x)) (e ∙ small_number a small) ∙ to_z-of_z w32 a (fits_signed_from_abs w32 a (let size = small_size a small in omega arith))

-- ---- what is left of a quotient

-- a number from which a small one is left, by a small one
product_within : (a p z : ℤ) (n : ℕ) → unsigned_abs a ≤ 16384 → unsigned_abs z < n → n ≤ 16385 → a -ℤ p ≡ z → (unsigned_abs p ≤ 32768) × (unsigned_abs (a -ℤ p) ≤ 16384)
product_within a p z n small low few e = omega (arith, ints)

fit_both : (a p z : ℤ) (n : ℕ) → unsigned_abs a ≤ 16384 → unsigned_abs z < n → n ≤ 16385 → a -ℤ p ≡ z → FitsSigned w32 p × FitsSigned w32 (a -ℤ p)
fit_both a p z n small low few e =
    let sizes = product_within a p z n small low few e in
    (fits_signed_from_abs w32 p (omega arith), fits_signed_from_abs w32 (a -ℤ p) (omega arith))

magnitude : (k : ℕ) → unsigned_abs (neg_ℤ (pos k)) ≡ k
magnitude zero = refl
magnitude (suc k) = refl

pub rest_fits : (a b : ℤ) → IsSmallInteger a → IsSmallInteger b → (b ≡ pos 0 → ⊥) → FitsSigned w32 (rounded_down a b *ℤ b) × FitsSigned w32 (a -ℤ (rounded_down a b *ℤ b))
rest_fits a (pos zero) p q other = absurd (other refl)
rest_fits a (pos (suc n)) p q other = (let it = rest_above a (suc n) (omega arith) in fit_both a _ (pos it.0) (suc n) (small_size a p) it.1 (omega arith) it.2)
rest_fits a (negsuc n) p q other = (let it = rest_below a n in let low : unsigned_abs (neg_ℤ (pos it.0)) < suc n = omega (arith, magnitude it.0, it.1) in fit_both a _ (neg_ℤ (pos it.0)) (suc n) (small_size a p) low (omega arith) it.2)
