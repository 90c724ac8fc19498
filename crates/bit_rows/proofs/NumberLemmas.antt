-- A word is the number of its bits.
use Rattle.std.proofs.Common.{◌≡◌, ℕ, zero, suc, ◌+◌, ◌-◌, ◌*◌, ◌/◌, ◌%◌, ◌^◌, ◌<◌, sym, ap, ◌∙◌, arith}
use Rattle.std.specs.Int.{bit_at}
use Rattle.std.proofs.lemmas.Nat.Bits.{same_from_bits_below, bit_at_lowest, bit_at-suc}
use Rattle.blue_model.specs.Forms.{left_bit, number_of}
use Rattle.bit_rows.proofs.BitLemmas.{left_bit-lt}

pub number_of-lt : (f : ℕ → ℕ) (k : ℕ) → ((j : ℕ) → j < k → f j < 2) → number_of f k < 2 ^ k
number_of-lt f zero h = omega arith
number_of-lt f (suc k) h =
    let low : number_of f k < 2 ^ k = number_of-lt f k (λ j l. h j (omega arith)) in
    let last : f k < 2 = h k (omega arith) in
    omega (arith, low, last)

pub bit_at-number_of : (f : ℕ → ℕ) (k : ℕ) → ((j : ℕ) → j < k → f j < 2) → (i : ℕ) → i < k → bit_at (number_of f k) i ≡ f (k - 1 - i)
bit_at-number_of f zero h i l = absurd (omega arith)
bit_at-number_of f (suc k) h zero l =
    let last : f k < 2 = h k (omega arith) in
    let low : (2 * number_of f k + f k) % 2 ≡ f k = omega (arith, last) in
    let at : k ≡ suc k - 1 - 0 = omega arith in
    bit_at_lowest (2 * number_of f k + f k) ∙ low ∙ ap f at
bit_at-number_of f (suc k) h (suc i) l =
    let last : f k < 2 = h k (omega arith) in
    let half : (2 * number_of f k + f k) / 2 ≡ number_of f k = omega (arith, last) in
    let at : k - 1 - i ≡ suc k - 1 - suc i = omega arith in
    bit_at-suc (2 * number_of f k + f k) i
    ∙ ap (λ n. bit_at n i) half
    ∙ bit_at-number_of f k (λ j m. h j (omega arith)) i (omega arith)
    ∙ ap f at

-- a word with these bits
pub word-from_bits : (f : ℕ → ℕ) (w : ℕ) → w < 65536 → ((j : ℕ) → j < 16 → left_bit w j ≡ f j) → w ≡ number_of f 16
unfolding left_bit
word-from_bits f w fits h =
    let two : (j : ℕ) → j < 16 → f j < 2 = λ j l. omega (arith, h j l, left_bit-lt w j) in
    same_from_bits_below 16 w (number_of f 16) fits (number_of-lt f 16 two)
    (λ i l.
    let back : 15 - (15 - i) ≡ i = omega arith in
    let at : 15 - i ≡ 16 - 1 - i = omega arith in
    ap (bit_at w) (sym back) ∙ h (15 - i) (omega arith) ∙ ap f at ∙ sym (bit_at-number_of f 16 two i l))
