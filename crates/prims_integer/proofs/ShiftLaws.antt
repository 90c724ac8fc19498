-- A shift by more than 15 places does what one by 15 does.
-- Nearly all of the pure functions prove without an answer: each is one line in 32 bits, and `small` at its end. What has one
-- multiplies by a number that isn't known, or doesn't see this.
use Rattle.std.proofs.Common.{zero, suc, ◌≡◌, ℕ, ℤ, pos, negsuc, ◌*◌, ◌^◌, ◌*ℤ◌, ◌≤◌, min, Bool, true, false, nat_le, None, refl, sym, ◌∙◌, ap, arith}
use Rattle.std.proofs.Math.IntN.{neg_ℤ}
use mir.Syntax.{w32}
use mir.Val.{to_z, of_z}
use Rattle.std.specs.Int.RustNames.{FitsSigned}
use Rattle.std.proofs.lemmas.Int.{to_z-of_z, fits_signed_mul, fits_signed_from_abs}
use Rattle.std.proofs.Math.Nat.{pow-le-pow_right, div-eq_of_lt}
use Rattle.std.proofs.lemmas.Grind.{common_steps}
use borrow.Author.Tests.{leb-true, leb-false}
use Rattle.std.specs.Int.{int_div_euclid}
use Rattle.long_names.specs.Words.{IsSmallInteger}
use Rattle.blue_model.specs.Contexts.{stated}
use Rattle.prims_integer.proofs.NumberLaws.{small_size}

large_power : (n : ℕ) → 15 ≤ n → 32768 ≤ 2 ^ n
large_power n h = pow-le-pow_right (omega arith) h

-- what is 15 or n, whichever is less, for what is the same from 15 on
least : {A : Type 0} (f : ℕ → A) (n : ℕ) → (15 ≤ n → f 15 ≡ f n) → f (min n 15) ≡ f n
least f n same = go (nat_le 15 n) refl
  where
    go : (b : Bool) → nat_le 15 n ≡ b → f (min n 15) ≡ f n
    go true e = (let high = leb-true 15 n e in ap f (omega arith) ∙ same high)
    go false e = (let low = leb-false 15 n e in ap f (omega arith))

past : (n : ℕ) → 16384 ≤ n → stated (pos n) ≡ None
past n h = grind (arith, common_steps)

past_negative : (n : ℕ) → 16385 ≤ n → stated (neg_ℤ (pos n)) ≡ None
past_negative zero h = absurd (omega arith)
past_negative (suc n) h = grind (arith, common_steps)

no_less : (n k : ℕ) → k ≤ suc n * k
no_less n k = grind arith

left_past : (a : ℤ) (k : ℕ) → 32768 ≤ k → stated (a *ℤ pos 32768) ≡ stated (a *ℤ pos k)
left_past (pos zero) k h = (let none : zero * 32768 ≡ zero * k = omega arith in ap (λ n. stated (pos n)) none)
left_past (pos (suc n)) k h = (let more = no_less n k in past (suc n * 32768) (omega arith) ∙ sym (past (suc n * k) (omega arith)))
left_past (negsuc n) k h = (let more = no_less n k in past_negative (suc n * 32768) (omega arith) ∙ sym (past_negative (suc n * k) (omega arith)))

right_past : (a : ℤ) (k : ℕ) → IsSmallInteger a → 32768 ≤ k → int_div_euclid a (pos 32768) ≡ int_div_euclid a (pos k)
right_past (pos n) k small h = ap (λ n. pos n) (div-eq_of_lt {n = n} {m = 32768} (omega arith) ∙ sym (div-eq_of_lt {n = n} {m = k} (omega arith)))
right_past (negsuc n) k small h = ap (λ n. negsuc n) (div-eq_of_lt {n = n} {m = 32768} (omega arith) ∙ sym (div-eq_of_lt {n = n} {m = k} (omega arith)))

pub left_least : (a : ℤ) (n : ℕ) → stated (a *ℤ pos (2 ^ min n 15)) ≡ stated (a *ℤ pos (2 ^ n))
left_least a n = least (λ k. stated (a *ℤ pos (2 ^ k))) n (λ high. left_past a (2 ^ n) (large_power n high))

pub right_least : (a : ℤ) (n : ℕ) → IsSmallInteger a → int_div_euclid a (pos (2 ^ min n 15)) ≡ int_div_euclid a (pos (2 ^ n))
right_least a n small = least (λ k. int_div_euclid a (pos (2 ^ k))) n (λ high. right_past a (2 ^ n) small (large_power n high))

-- ---- the numbers as the code has them

power_size : (n : ℕ) → 2 ^ min n 15 ≤ 32768
power_size n = (let few : min n 15 ≤ 15 = omega arith in pow-le-pow_right (omega arith) few)

pub power_is : (z : ℤ) (k n : ℕ) → z ≡ pos (2 ^ k) → k ≡ min n 15 → to_z w32 (of_z w32 z) ≡ pos (2 ^ min n 15)
power_is z k n e f = ap (λ x. to_z w32 (of_z w32 x)) (e ∙ ap (λ j. pos (2 ^ j)) f) ∙ to_z-of_z w32 (pos (2 ^ min n 15)) (fits_signed_from_abs w32 (pos (2 ^ min n 15)) (let size = power_size n in omega arith))

pub product_fits : (a : ℤ) (n : ℕ) → IsSmallInteger a → FitsSigned w32 (a *ℤ pos (2 ^ min n 15))
product_fits a n small = fits_signed_mul w32 a (pos (2 ^ min n 15)) 16384 32768 (small_size a small) (power_size n) (omega arith)
