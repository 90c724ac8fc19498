-- Shifts by more places than a large integer has bits.
-- All other operations prove without an answer: each is one line in 128 bits, whose clause says whether the result has as many.
use Rattle.std.proofs.Common.{zero, suc, ◌≡◌, ℕ, ℤ, pos, negsuc, ◌*◌, ◌/◌, ◌^◌, ◌*ℤ◌, ◌<◌, ◌≤◌, min, nat_le, Bool, true, false, None, refl, sym, ◌∙◌, ap, arith}
use Rattle.std.proofs.Math.IntN.{neg_ℤ}
use mir.Syntax.{w128}
use lib.Signed.{shr_z}
use Rattle.std.specs.Int.RustNames.{FitsSigned}
use Rattle.std.proofs.Math.Nat.{pow-le-pow_right, div-eq_of_lt}
use Rattle.std.proofs.lemmas.Grind.{common_steps}
use Rattle.std.proofs.lemmas.Bool.Decides.{nat_tests}
use borrow.Author.Tests.{leb-true, leb-false}
use Rattle.std.specs.Int.{int_div_euclid}
use Rattle.blue_model.specs.LargeInts.{in_range}

large_power : (n : ℕ) → 127 ≤ n → 2 ^ 127 ≤ 2 ^ n
large_power n h = pow-le-pow_right (omega arith) h

-- ---- to the left

past : (n : ℕ) → 2 ^ 127 ≤ n → None ≡ in_range (pos n)
past n h = grind (arith, nat_tests, common_steps)

past_negative : (n : ℕ) → 2 ^ 127 < n → None ≡ in_range (neg_ℤ (pos n))
past_negative zero h = absurd (omega arith)
past_negative (suc n) h = grind (arith, nat_tests, common_steps)

no_less : (n k : ℕ) → k ≤ suc n * k
no_less n k = grind arith

-- no number but 0 stays in range
pub left_past : (a : ℤ) (n : ℕ) → (a ≡ pos 0 → ⊥) → 127 < n → None ≡ in_range (a *ℤ pos (2 ^ n))
left_past (pos zero) n other h = absurd (other refl)
left_past (pos (suc k)) n other h = (let more = no_less k (2 ^ n) in let high = large_power n (omega arith) in past (suc k * 2 ^ n) (omega arith))
left_past (negsuc k) n other h = (let more = no_less k (2 ^ n) in let high : 2 ^ 128 ≤ 2 ^ n = pow-le-pow_right (omega arith) h in past_negative (suc k * 2 ^ n) (omega arith))

-- ---- to the right

-- nothing is left of a number that is in range
nothing_left : (k n m : ℕ) → k < 2 ^ 127 → m ≡ min n 127 → k / 2 ^ m ≡ k / 2 ^ n
nothing_left k n m low e = go (nat_le 127 n) refl
  where
    go : (b : Bool) → nat_le 127 n ≡ b → k / 2 ^ m ≡ k / 2 ^ n
    go true is =
        let high = leb-true 127 n is in
        let last : m ≡ 127 = omega arith in
        let many = large_power n high in
        ap (λ j. k / 2 ^ j) last ∙ div-eq_of_lt {n = k} {m = 2 ^ 127} low ∙ sym (div-eq_of_lt {n = k} {m = 2 ^ n} (omega arith))
    go false is = let few = leb-false 127 n is in ap (λ j. k / 2 ^ j) (omega arith)

pub right_least : (a : ℤ) (n m : ℕ) → FitsSigned w128 a → m ≡ min n 127 → shr_z a (2 ^ m) ≡ int_div_euclid a (pos (2 ^ n))
right_least (pos k) n m fits e = ap (λ j. pos j) (nothing_left k n m fits.sfits e)
right_least (negsuc k) n m fits e = ap (λ j. negsuc j) (nothing_left k n m fits.sfits e)

-- what is left is in range, too
less : (k p : ℕ) → k < 2 ^ 127 → k / p < 2 ^ 127
less k p low = omega arith

pub right_fits : (a : ℤ) (p : ℕ) → FitsSigned w128 a → FitsSigned w128 (shr_z a p)
right_fits (pos k) p fits = record { sfits = less k p fits.sfits }
right_fits (negsuc k) p fits = record { sfits = less k p fits.sfits }
