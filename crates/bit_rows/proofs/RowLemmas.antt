-- Bits of lists of words, and the steps of a row.
-- One bit number for a whole list of words keeps shifts, masks and rows linear.
use Rattle.std.proofs.Common.{◌≡◌, ◌≢◌, ℕ, ◌+◌, ◌-◌, ◌*◌, ◌/◌, ◌%◌, ◌^◌, ◌<◌, ◌≤◌, min, List, [], ◌∷◌, get_or, set, length, refl, sym, ap, ◌∙◌, arith, ◌⊎◌, inl, inr, ⊎_elim, cond, true, false, get_or-set_other, get_or-set_same}
use Rattle.std.proofs.Math.Nat.{pow-le-pow_right}
use Rattle.std.proofs.lemmas.Nat.{one_shl}
use Rattle.std.proofs.lemmas.Nat.Bits.{bit_at_mask_inside, bit_at_mask_below, bit_at_mask_above}
use Rattle.std.proofs.lemmas.Bool.{cases_lt, cases_eq}
use Rattle.std.proofs.lemmas.Bool.Decides.{nat_tests}
use Rattle.blue_model.specs.Forms.{left_bit, bit}
use Rattle.bit_rows.specs.Rows.{within}
use Rattle.bit_rows.proofs.BitLemmas.{bit-first, bit-second}

pub within-inside : (f t n : ℕ) → f ≤ n → n < t → within f t n ≡ true
within-inside f t n h l = grind (arith, nat_tests)

pub within-below : (f t n : ℕ) → n < f → within f t n ≡ false
within-below f t n h = grind (arith, nat_tests)

pub within-above : (f t n : ℕ) → t ≤ n → within f t n ≡ false
within-above f t n h = grind (arith, nat_tests)

-- the edges of a row, seen from one of its words
pub within-word : (f t i j : ℕ) → j < 16 → within (min (f - 16 * i) 16) (min (t - 16 * i) 16) j ≡ within f t (16 * i + j)
within-word f t i j h =
    ⊎_elim
    (λ (below : 16 * i + j < f).
    let a : j < min (f - 16 * i) 16 = omega arith in
    within-below (min (f - 16 * i) 16) (min (t - 16 * i) 16) j a ∙ sym (within-below f t (16 * i + j) below))
    (λ (from : f ≤ 16 * i + j).
    ⊎_elim
    (λ (inside : 16 * i + j < t).
    let a : min (f - 16 * i) 16 ≤ j = omega arith in
    let b : j < min (t - 16 * i) 16 = omega arith in
    within-inside (min (f - 16 * i) 16) (min (t - 16 * i) 16) j a b ∙ sym (within-inside f t (16 * i + j) from inside))
    (λ (above : t ≤ 16 * i + j).
    let b : min (t - 16 * i) 16 ≤ j = omega arith in
    within-above (min (f - 16 * i) 16) (min (t - 16 * i) 16) j b ∙ sym (within-above f t (16 * i + j) above))
    (cases_lt (16 * i + j) t))
    (cases_lt (16 * i + j) f)

-- the ones of a mask
pub left_bit-mask : (low high j : ℕ) → low ≤ high → high ≤ 16 → j < 16 → left_bit (2 ^ (16 - low) - 2 ^ (16 - high)) j ≡ cond (within low high j) 1 0
unfolding left_bit
left_bit-mask low high j o f h =
    ⊎_elim
    (λ (below : j < low).
    bit_at_mask_above (16 - high) (16 - low) (15 - j) (omega arith)
    ∙ sym (ap (λ b. cond b 1 0) (within-below low high j below)))
    (λ (from : low ≤ j).
    ⊎_elim
    (λ (inside : j < high).
    bit_at_mask_inside (16 - high) (16 - low) (15 - j) (omega arith) (omega arith)
    ∙ sym (ap (λ b. cond b 1 0) (within-inside low high j from inside)))
    (λ (above : high ≤ j).
    bit_at_mask_below (16 - high) (16 - low) (15 - j) (omega arith)
    ∙ sym (ap (λ b. cond b 1 0) (within-above low high j above)))
    (cases_lt j high))
    (cases_lt j low)

pub shifted_one : (k : ℕ) → k ≤ 16 → 1 * 2 ^ k % 4294967296 ≡ 2 ^ k
shifted_one k h = one_shl k 32 (omega arith)

pub powers_in_order : (low high : ℕ) → low ≤ high → 2 ^ (16 - high) ≤ 2 ^ (16 - low)
powers_in_order low high h = pow-le-pow_right (let p : 0 < 2 = omega arith in p) (omega arith)

pub power_fits : (low : ℕ) → 2 ^ (16 - low) ≤ 65536
power_fits low = pow-le-pow_right (let p : 0 < 2 = omega arith in p) (let q : 16 - low ≤ 16 = omega arith in q)

-- bits of a list of words
pub bit-word : (xs : List ℕ) (i j : ℕ) → j < 16 → bit xs (16 * i + j) ≡ left_bit (get_or xs i 0) j
unfolding bit
bit-word xs i j h =
    let q : (16 * i + j) / 16 ≡ i = omega arith in
    let r : (16 * i + j) % 16 ≡ j = omega arith in
    rw (q, r) refl

pub bit-at : (xs : List ℕ) (n : ℕ) → bit xs n ≡ left_bit (get_or xs (n / 16) 0) (n % 16)
unfolding bit
bit-at xs n = refl

pub bit-pair : (xs : List ℕ) (p k : ℕ) → k < 32 → bit (get_or xs p 0 ∷ get_or xs (p + 1) 0 ∷ []) k ≡ bit xs (16 * p + k)
bit-pair xs p k h =
    ⊎_elim
    (λ (low : k < 16). bit-first (get_or xs p 0) (get_or xs (p + 1) 0) k low ∙ sym (bit-word xs p k low))
    (λ (high : 16 ≤ k).
    let e : 16 * (p + 1) + (k - 16) ≡ 16 * p + k = omega arith in
    bit-second (get_or xs p 0) (get_or xs (p + 1) 0) k high h
    ∙ sym (bit-word xs (p + 1) (k - 16) (omega arith))
    ∙ ap (bit xs) e)
    (cases_lt k 16)

pub bit-set_other : (xs : List ℕ) (i w n : ℕ) → n / 16 ≢ i → bit (set xs i w) n ≡ bit xs n
bit-set_other xs i w n ne =
    bit-at (set xs i w) n ∙ ap (λ x. left_bit x (n % 16)) (get_or-set_other xs i (n / 16) w 0 ne) ∙ sym (bit-at xs n)

pub bit-set_same : (xs : List ℕ) (i w n : ℕ) → i < length xs → n / 16 ≡ i → bit (set xs i w) n ≡ left_bit w (n % 16)
bit-set_same xs i w n h e =
    bit-at (set xs i w) n
    ∙ ap (λ k. left_bit (get_or (set xs i w) k 0) (n % 16)) e
    ∙ ap (λ x. left_bit x (n % 16)) (get_or-set_same xs i w 0 h)

-- ---- the steps of a row

-- the word cut out of the source has the source's bits
pub cut-source : (source : List ℕ) (s at i skip skew j : ℕ) → at ≡ skip / 16 → skew ≡ skip % 16 → j < 16
    → left_bit s j ≡ bit (get_or source (at + i) 0 ∷ get_or source (at + i + 1) 0 ∷ []) (skew + j)
    → left_bit s j ≡ bit source (skip + (16 * i + j))
cut-source source s at i skip skew j ha hs h e =
    let place : 16 * (at + i) + (skew + j) ≡ skip + (16 * i + j) = omega arith in
    e ∙ bit-pair source (at + i) (skew + j) (omega arith) ∙ ap (bit source) place

-- one more word
pub made_more : (V : ℕ → ℕ → ℕ) (row : List ℕ) (first i w : ℕ) → i < length row
    → ((k j : ℕ) → first ≤ k → k < i → j < 16 → left_bit (get_or row k 0) j ≡ V k j)
    → ((j : ℕ) → j < 16 → left_bit w j ≡ V i j)
    → (k j : ℕ) → first ≤ k → k < i + 1 → j < 16 → left_bit (get_or (set row i w) k 0) j ≡ V k j
made_more V row first i w h done here k j f l b =
    ⊎_elim
    (λ (same : k ≡ i). rw same (ap (λ x. left_bit x j) (get_or-set_same row i w 0 h) ∙ here j b))
    (λ (other : k ≢ i). ap (λ x. left_bit x j) (get_or-set_other row i k w 0 other) ∙ done k j f (omega (arith, l, other)) b)
    (cases_eq k i)

pub rest_more : (row old : List ℕ) (first i w : ℕ) → first ≤ i
    → ((k : ℕ) → ((k < first) ⊎ (i ≤ k)) → get_or row k 0 ≡ get_or old k 0)
    → (k : ℕ) → ((k < first) ⊎ (i + 1 ≤ k)) → get_or (set row i w) k 0 ≡ get_or old k 0
rest_more row old first i w h rest k (inl below) =
    let ne : k ≢ i = omega arith in
    get_or-set_other row i k w 0 ne ∙ rest k (inl below)
rest_more row old first i w h rest k (inr above) =
    let ne : k ≢ i = omega arith in
    get_or-set_other row i k w 0 ne ∙ rest k (inr (omega arith))

pub fits_more : (row : List ℕ) (i w : ℕ) → i < length row → w < 65536 → ((k : ℕ) → get_or row k 0 < 65536) → (k : ℕ) → get_or (set row i w) k 0 < 65536
fits_more row i w h l fits k =
    ⊎_elim
    (λ (same : k ≡ i). rw same (rw (get_or-set_same row i w 0 h) l))
    (λ (other : k ≢ i). rw (get_or-set_other row i k w 0 other) (fits k))
    (cases_eq k i)

-- the row after the words were made, and their edges put back
pub row-done : (V : ℕ → ℕ) (row made old : List ℕ) (first past from to words n : ℕ)
    → first ≡ from / 16 → past ≡ min (to / 16 + 1) words → n < 16 * words
    → ((k j : ℕ) → first ≤ k → k < past → j < 16 → left_bit (get_or made k 0) j ≡ V (16 * k + j))
    → ((k : ℕ) → ((k < first) ⊎ (past ≤ k)) → get_or made k 0 ≡ get_or old k 0)
    → ((k j : ℕ) → first ≤ k → k < past → j < 16 → left_bit (get_or row k 0) j ≡ cond (within from to (16 * k + j)) (left_bit (get_or made k 0) j) (left_bit (get_or old k 0) j))
    → ((k : ℕ) → ((k < first) ⊎ (past ≤ k)) → get_or row k 0 ≡ get_or made k 0)
    → bit row n ≡ cond (within from to n) (V n) (bit old n)
row-done V row made old first past from to words n hf hp l done rest back stay =
    let place : 16 * (n / 16) + n % 16 ≡ n = omega arith in
    let out : (((n / 16) < first) ⊎ (past ≤ n / 16)) → within from to n ≡ false → bit row n ≡ cond (within from to n) (V n) (bit old n) = λ apart no.
    bit-at row n ∙ ap (λ x. left_bit x (n % 16)) (stay (n / 16) apart ∙ rest (n / 16) apart) ∙ sym (bit-at old n) ∙ sym (rw no refl) in
    ⊎_elim
    (λ (below : n / 16 < first). out (inl below) (within-below from to n (omega arith)))
    (λ (from_first : first ≤ n / 16).
    ⊎_elim
    (λ (inside : n / 16 < past).
    let b : n % 16 < 16 = omega arith in
    bit-at row n
    ∙ back (n / 16) (n % 16) from_first inside b
    ∙ rw (done (n / 16) (n % 16) from_first inside b, place) (ap (cond (within from to n) (V n)) (sym (bit-at old n))))
    (λ (above : past ≤ n / 16). out (inr above) (within-above from to n (omega arith)))
    (cases_lt (n / 16) past))
    (cases_lt (n / 16) first)

-- a row in which no word has a bit to be changed
pub row-kept : (V : ℕ → ℕ) (old : List ℕ) (first past from to words n : ℕ)
    → first ≡ from / 16 → past ≡ min (to / 16 + 1) words → past ≤ first → n < 16 * words → from ≤ to
    → bit old n ≡ cond (within from to n) (V n) (bit old n)
row-kept V old first past from to words n hf hp none l o = sym (rw (within-below from to n (omega arith)) refl)
