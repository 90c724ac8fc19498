-- Bits of words that are made of others by and, or, xor, not and a shift.
use Rattle.std.proofs.Common.{◌≡◌, ℕ, ◌+◌, ◌-◌, ◌*◌, ◌/◌, ◌%◌, ◌^◌, ◌<◌, ◌≤◌, min, max, [], ◌∷◌, refl, sym, ap, ◌∙◌, arith, ⊎_elim, cond, ltb}
use Rattle.std.specs.Int.{bit_at, w16}
use Rattle.std.specs.Int.RustNames.{bit_or, bit_xor, bit_and}
use Rattle.std.proofs.lemmas.Nat.{shr-shr, pow_pos}
use Rattle.std.proofs.lemmas.Bool.{cases_lt}
use Rattle.std.proofs.lemmas.Nat.Bits.{bit_at_and, bit_at_or, bit_at_xor, bit_at_not, bit_at_ones, bit_at_above, bit_at-zero, bit_at-lt, bit_at_cat_low, bit_at_cat_high}
use Rattle.blue_model.specs.Forms.{left_bit, bit}

pub left_bit-and : (a b j : ℕ) → left_bit (bit_and a b) j ≡ min (left_bit a j) (left_bit b j)
unfolding left_bit
left_bit-and a b j = bit_at_and a b (15 - j)

pub left_bit-or : (a b j : ℕ) → left_bit (bit_or a b) j ≡ max (left_bit a j) (left_bit b j)
unfolding left_bit
left_bit-or a b j = bit_at_or a b (15 - j)

pub left_bit-xor : (a b j : ℕ) → left_bit (bit_xor a b) j ≡ (left_bit a j + left_bit b j) % 2
unfolding left_bit
left_bit-xor a b j = bit_at_xor a b (15 - j)

pub left_bit-not : (n j : ℕ) → n < 65536 → left_bit (65535 - n) j ≡ 1 - left_bit n j
unfolding left_bit
left_bit-not n j h = bit_at_not w16 n (15 - j) h (omega arith)

pub left_bit-zero : (j : ℕ) → left_bit 0 j ≡ 0
unfolding left_bit
left_bit-zero j = bit_at-zero (15 - j)

pub left_bit-ones : (j : ℕ) → left_bit 65535 j ≡ 1
unfolding left_bit
left_bit-ones j = bit_at_ones 16 (15 - j) (omega arith)

pub left_bit-lt : (n j : ℕ) → left_bit n j < 2
unfolding left_bit
left_bit-lt n j = bit_at-lt n (15 - j)

-- the low bits of a number are those of its remainder
bit_at-mod : (n b : ℕ) → b < 16 → bit_at (n % 65536) b ≡ bit_at n b
bit_at-mod n b h =
    let split : n ≡ n / 65536 * 65536 + n % 65536 = omega arith in
    sym (ap (λ m. bit_at m b) split ∙ bit_at_cat_low (n / 65536) 16 (n % 65536) b h)

-- bit n of two words
pub bit-first : (a b n : ℕ) → n < 16 → bit (a ∷ b ∷ []) n ≡ left_bit a n
unfolding bit
bit-first a b n h =
    let q : n / 16 ≡ 0 = omega arith in
    let r : n % 16 ≡ n = omega arith in
    rw (q, r) refl

pub bit-second : (a b n : ℕ) → 16 ≤ n → n < 32 → bit (a ∷ b ∷ []) n ≡ left_bit b (n - 16)
unfolding bit
bit-second a b n h l =
    let q : n / 16 ≡ 1 = omega arith in
    let r : n % 16 ≡ n - 16 = omega arith in
    rw (q, r) refl

-- the bits of a word that is shifted left, and of one that is shifted right by what is left to 16
shl-inside : (a t j : ℕ) → t + j < 16 → left_bit (a * 2 ^ t % 65536) j ≡ left_bit a (t + j)
unfolding left_bit
shl-inside a t j h =
    let none : a * 2 ^ t ≡ a * 2 ^ t + 0 = omega arith in
    bit_at-mod (a * 2 ^ t) (15 - j) (omega arith)
    ∙ ap (λ n. bit_at n (15 - j)) none
    ∙ bit_at_cat_high a t 0 (15 - j) (pow_pos t) (omega arith)
    ∙ ap (bit_at a) (let e : 15 - j - t ≡ 15 - (t + j) = omega arith in e)

shl-outside : (a t j : ℕ) → j < 16 → 16 ≤ t + j → left_bit (a * 2 ^ t % 65536) j ≡ 0
unfolding left_bit
shl-outside a t j l h =
    let none : a * 2 ^ t ≡ a * 2 ^ t + 0 = omega arith in
    bit_at-mod (a * 2 ^ t) (15 - j) (omega arith)
    ∙ ap (λ n. bit_at n (15 - j)) none
    ∙ bit_at_cat_low a t 0 (15 - j) (omega arith)
    ∙ bit_at-zero (15 - j)

shr-at : (b t j : ℕ) → left_bit (b / 2 / 2 ^ (15 - t)) j ≡ bit_at b (1 + (15 - t) + (15 - j))
unfolding left_bit
shr-at b t j =
    ap (λ n. bit_at n (15 - j)) (shr-shr b 1 (15 - t))
    ∙ ap (λ q. q % 2) (shr-shr b (1 + (15 - t)) (15 - j))

shr-outside : (b t j : ℕ) → b < 65536 → t < 16 → t + j < 16 → left_bit (b / 2 / 2 ^ (15 - t)) j ≡ 0
shr-outside b t j fits ht h = shr-at b t j ∙ bit_at_above b 16 (1 + (15 - t) + (15 - j)) fits (omega arith)

shr-inside : (b t j : ℕ) → t < 16 → j < 16 → 16 ≤ t + j → left_bit (b / 2 / 2 ^ (15 - t)) j ≡ left_bit b (t + j - 16)
unfolding left_bit
shr-inside b t j ht hj h = shr-at b t j ∙ ap (bit_at b) (let e : 1 + (15 - t) + (15 - j) ≡ 15 - (t + j - 16) = omega arith in e)

-- the word that two shifts cut out of two words side by side
pub left_bit-cut : (a b t j : ℕ) → b < 65536 → t < 16 → j < 16 → left_bit (bit_or (a * 2 ^ t % 65536) (b / 2 / 2 ^ (15 - t))) j ≡ bit (a ∷ b ∷ []) (t + j)
left_bit-cut a b t j fits ht hj =
    left_bit-or (a * 2 ^ t % 65536) (b / 2 / 2 ^ (15 - t)) j
    ∙ ⊎_elim
    (λ (low : t + j < 16).
    rw (shl-inside a t j low, shr-outside b t j fits ht low)
    (let e : max (left_bit a (t + j)) 0 ≡ left_bit a (t + j) = omega arith in e ∙ sym (bit-first a b (t + j) low)))
    (λ (high : 16 ≤ t + j).
    rw (shl-outside a t j hj high, shr-inside b t j ht hj high)
    (let e : max 0 (left_bit b (t + j - 16)) ≡ left_bit b (t + j - 16) = omega arith in e ∙ sym (bit-second a b (t + j) high (omega arith))))
    (cases_lt (t + j) 16)

-- a mask chooses, where it is 0 or 1
pub chosen : (m n o : ℕ) → m < 2 → n < 2 → o < 2 → max (min n m) (min o (1 - m)) ≡ cond (ltb 0 m) n o
chosen m n o hm hn ho =
    ⊎_elim
    (λ (z : m < 1). let e : m ≡ 0 = omega arith in rw e (omega arith))
    (λ (z : 1 ≤ m). let e : m ≡ 1 = omega arith in rw e (omega arith))
    (cases_lt m 1)
