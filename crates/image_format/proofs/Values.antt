-- Values and their long words, both ways, and lists of them.
use Rattle.std.proofs.Common.{◌≡◌, ℕ, pos, negsuc, ◌+◌, ◌-◌, ◌*◌, ◌/◌, ◌%◌, ◌^◌, ◌<◌, ◌≤◌, Bool, true, false, cond, eqb, ltb, leb, Option, Some, None, refl, subst, arith, inl, inr, ◌⊎◌}
use Rattle.std.proofs.lemmas.Bool.{ltb-true, le-ltb, lt-ltb, leb-true, le-leb, eqb-true, eqb-false, eq-eqb, ne_eqb}
use Rattle.long_names.specs.Words.{IsValue, long_word, value_of, small_integer_of}
use Rattle.long_names.specs.declared.value.Value.{Value}
use Rattle.long_names.specs.declared.value.Value.TheVariants.{Int, Ref}
use Rattle.image_format.proofs.Numbers.{some_is}

pub chosen : {A : Type 0} (b : Bool) (x y z : A) → cond b x y ≡ z → ((b ≡ true) × (x ≡ z)) ⊎ ((b ≡ false) × (y ≡ z))
chosen true x y z e = inl (refl, e)
chosen false x y z e = inr (refl, e)

pub none_is : {A : Type 0} {P : Type 0} (x : A) → ◌≡◌ {A = Option A} None (Some x) → P
none_is x e = absurd cc

-- what a long word stands for
abbrev Stands : ℕ → Value → Type 0
Stands word v = IsValue v × (long_word v ≡ word)

small_back : (word : ℕ) (v : Value) → word < 2 ^ 32 → word % 2 ≡ 1 → small_integer_of (word / 2) ≡ Some v → Stands word v
small_back word v lt odd e = elim (chosen (ltb (word / 2) 16384) (Some (Int (pos (word / 2)))) _ (Some v) e) [
  | inl p ↦ subst (Stands word) (some_is (Int (pos (word / 2))) v p.1) (ltb-true _ _ p.0, omega (arith, odd))
  | inr p ↦ elim (chosen (leb (2 ^ 31 - 16384) (word / 2)) (Some (Int (negsuc (2 ^ 31 - 1 - word / 2)))) None (Some v) p.1) [
    | inl q ↦ let low : 2 ^ 31 - 16384 ≤ word / 2 = leb-true _ _ q.0 in subst (Stands word) (some_is (Int (negsuc (2 ^ 31 - 1 - word / 2))) v q.1) (omega (arith, low), omega (arith, odd, low))
    | inr q ↦ none_is v q.1
  ]
]

pub value_back : (word : ℕ) (v : Value) → word < 2 ^ 32 → value_of word ≡ Some v → IsValue v × (long_word v ≡ word)
value_back word v lt e = elim (chosen (eqb (word % 2) 1) (small_integer_of (word / 2)) _ (Some v) e) [
  | inl p ↦ small_back word v lt (eqb-true _ _ p.0) p.1
  | inr p ↦ elim (chosen (eqb word 0) None (Some (Ref word)) (Some v) p.1) [
    | inl q ↦ none_is v q.1
    | inr q ↦
        let even : word % 2 ≡ 0 = omega (arith, eqb-false _ _ p.0) in
        let above : 0 < word = omega (arith, eqb-false _ _ q.0) in
        subst (Stands word) (some_is (Ref word) v q.1) ((record { even = even; above = above }, lt), refl)
  ]
]

pub value_again : (v : Value) → IsValue v → value_of (long_word v) ≡ Some v
value_again (Int (pos n)) lt =
    let odd : eqb ((2 * n + 1) % 2) 1 ≡ true = eq-eqb _ _ (omega arith) in
    let half : (2 * n + 1) / 2 ≡ n = omega arith in
    let low : ltb n 16384 ≡ true = lt-ltb _ _ lt in
    rw (odd, half, low) refl
value_again (Int (negsuc n)) lt =
    let odd : eqb ((2 ^ 32 - 1 - 2 * n) % 2) 1 ≡ true = eq-eqb _ _ (omega (arith, lt)) in
    let half : (2 ^ 32 - 1 - 2 * n) / 2 ≡ 2 ^ 31 - 1 - n = omega (arith, lt) in
    let low : ltb (2 ^ 31 - 1 - n) 16384 ≡ false = le-ltb _ _ (omega (arith, lt)) in
    let high : leb (2 ^ 31 - 16384) (2 ^ 31 - 1 - n) ≡ true = le-leb _ _ (omega (arith, lt)) in
    let back : 2 ^ 31 - 1 - (2 ^ 31 - 1 - n) ≡ n = omega (arith, lt) in
    rw (odd, half, low, high, back) refl
value_again (Ref n) is =
    let even : eqb (n % 2) 1 ≡ false = ne_eqb _ _ (λ e. omega (arith, is.0.even)) in
    let above : eqb n 0 ≡ false = ne_eqb _ _ (λ e. omega (arith, is.0.above)) in
    rw (even, above) refl

pub word_fits : (v : Value) → IsValue v → long_word v < 2 ^ 32
word_fits (Int (pos n)) lt = omega (arith, lt)
word_fits (Int (negsuc n)) lt = omega arith
word_fits (Ref n) is = is.1
