-- What masks make of words, bit by bit.
use Rattle.std.proofs.Common.{◌≡◌, ℕ, ◌+◌, ◌%◌, ◌<◌, ◌≤◌, min, refl, sym, arith, ⊎_elim}
use Rattle.std.specs.Int.RustNames.{bit_xor, bit_and}
use Rattle.std.proofs.lemmas.Bool.{cases_lt}
use Rattle.blue_model.specs.Forms.{left_bit}
use Rattle.bit_rows.proofs.BitLemmas.{left_bit-and, left_bit-xor, left_bit-lt}

-- the word that the masks make
pub masks-made : (keep flip source_keep source_flip s d j : ℕ)
    → left_bit (bit_xor (bit_xor (bit_and d keep) flip) (bit_and s (bit_xor (bit_and d source_keep) source_flip))) j
    ≡ ((min (left_bit d j) (left_bit keep j) + left_bit flip j) % 2 + min (left_bit s j) ((min (left_bit d j) (left_bit source_keep j) + left_bit source_flip j) % 2)) % 2
masks-made keep flip source_keep source_flip s d j = simp (left_bit-xor, left_bit-and) refl

-- A bit by a rule is one of four, of which the masks are made.
four : (p q r t s d x : ℕ) → p < 2 → q < 2 → r < 2 → t < 2 → s < 2 → d < 2
    → (s ≡ 0 → d ≡ 0 → x ≡ p) → (s ≡ 0 → d ≡ 1 → x ≡ q) → (s ≡ 1 → d ≡ 0 → x ≡ r) → (s ≡ 1 → d ≡ 1 → x ≡ t)
    → ((min d ((p + q) % 2) + p) % 2 + min s ((min d (((p + q) % 2 + (r + t) % 2) % 2) + (p + r) % 2) % 2)) % 2 ≡ x
four p q r t s d x lp lq lr lt ls ld a b c e =
    ⊎_elim
    (λ (z : s < 1).
    let s0 : s ≡ 0 = omega arith in
    ⊎_elim
    (λ (y : d < 1). let d0 : d ≡ 0 = omega arith in let v = a s0 d0 in rw (s0, d0, v) (omega (arith, lp)))
    (λ (y : 1 ≤ d). let d1 : d ≡ 1 = omega arith in let v = b s0 d1 in rw (s0, d1, v) (omega (arith, lp, lq)))
    (cases_lt d 1))
    (λ (z : 1 ≤ s).
    let s1 : s ≡ 1 = omega arith in
    ⊎_elim
    (λ (y : d < 1). let d0 : d ≡ 0 = omega arith in let v = c s1 d0 in rw (s1, d0, v) (omega (arith, lp, lr)))
    (λ (y : 1 ≤ d). let d1 : d ≡ 1 = omega arith in let v = e s1 d1 in rw (s1, d1, v) (omega (arith, lp, lq, lr, lt)))
    (cases_lt d 1))
    (cases_lt s 1)

-- the masks out of what a rule makes of zeros and ones
pub masks-rule : (f : ℕ → ℕ → ℕ) (neither dest source both s d j : ℕ) → s < 2 → d < 2
    → left_bit neither j ≡ f 0 0 → left_bit dest j ≡ f 0 1 → left_bit source j ≡ f 1 0 → left_bit both j ≡ f 1 1
    → ((min d (left_bit (bit_xor neither dest) j) + left_bit neither j) % 2
    + min s ((min d (left_bit (bit_xor (bit_xor neither dest) (bit_xor source both)) j) + left_bit (bit_xor neither source) j) % 2)) % 2 ≡ f s d
masks-rule f neither dest source both s d j hs hd n e u b =
    simp (left_bit-xor)
    (four (left_bit neither j) (left_bit dest j) (left_bit source j) (left_bit both j) s d (f s d)
    (left_bit-lt neither j) (left_bit-lt dest j) (left_bit-lt source j) (left_bit-lt both j) hs hd
    (λ p q. rw (p, q) (sym n)) (λ p q. rw (p, q) (sym e)) (λ p q. rw (p, q) (sym u)) (λ p q. rw (p, q) (sym b)))

-- the word that two masks make
pub filled-word : (d keep flip j : ℕ) → left_bit (bit_xor (bit_and d keep) flip) j ≡ (min (left_bit d j) (left_bit keep j) + left_bit flip j) % 2
filled-word d keep flip j = simp (left_bit-xor, left_bit-and) refl

-- Where the source's bit is known, two masks are enough.
enough : (k f l g s d : ℕ) → k < 2 → f < 2 → l < 2 → g < 2 → s < 2 → d < 2
    → (min d ((k + min s l) % 2) + (f + min s g) % 2) % 2 ≡ ((min d k + f) % 2 + min s ((min d l + g) % 2)) % 2
enough k f l g s d lk lf ll lg ls ld =
    ⊎_elim
    (λ (z : s < 1).
    let s0 : s ≡ 0 = omega arith in
    ⊎_elim
    (λ (y : d < 1). let d0 : d ≡ 0 = omega arith in rw (s0, d0) (omega (arith, lf)))
    (λ (y : 1 ≤ d). let d1 : d ≡ 1 = omega arith in rw (s0, d1) (omega (arith, lk, lf)))
    (cases_lt d 1))
    (λ (z : 1 ≤ s).
    let s1 : s ≡ 1 = omega arith in
    ⊎_elim
    (λ (y : d < 1). let d0 : d ≡ 0 = omega arith in rw (s1, d0) (omega (arith, lf, lg)))
    (λ (y : 1 ≤ d). let d1 : d ≡ 1 = omega arith in rw (s1, d1) (omega (arith, lk, lf, ll, lg)))
    (cases_lt d 1))
    (cases_lt s 1)

pub masks-filling : (keep flip source_keep source_flip s d j : ℕ) → d < 2
    → (min d (left_bit (bit_xor keep (bit_and s source_keep)) j) + left_bit (bit_xor flip (bit_and s source_flip)) j) % 2
    ≡ ((min d (left_bit keep j) + left_bit flip j) % 2 + min (left_bit s j) ((min d (left_bit source_keep j) + left_bit source_flip j) % 2)) % 2
masks-filling keep flip source_keep source_flip s d j h =
    simp (left_bit-xor, left_bit-and)
    (enough (left_bit keep j) (left_bit flip j) (left_bit source_keep j) (left_bit source_flip j) (left_bit s j) d
    (left_bit-lt keep j) (left_bit-lt flip j) (left_bit-lt source_keep j) (left_bit-lt source_flip j) (left_bit-lt s j) h)
