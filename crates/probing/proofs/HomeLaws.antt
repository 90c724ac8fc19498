-- Homes are slots.
use Rattle.std.proofs.Common.{◌≡◌, ℕ, ◌+◌, ◌*◌, ◌/◌, ◌^◌, ◌<◌, ◌≤◌, Bool, true, false, cond, refl, sym, ap, ◌∙◌, arith}
use Rattle.std.proofs.Math.Nat.{div-lt_iff_lt-mul, mul_comm, mul-lt-mul_of_pos_right}
use Rattle.std.proofs.lemmas.Bool.Decides.{nat_tests}
use Rattle.std.specs.Bool.{nat_lt}
use Rattle.probing.specs.Homes.{spread, home_of, block_begin, block_home, paged_home_of}

spread-below : (name : ℕ) → spread name < 2 ^ 32
unfolding spread
spread-below name = omega arith

pub home_of-below : (name n : ℕ) → 0 < n → home_of name n < n
unfolding home_of
home_of-below name n some = (div-lt_iff_lt-mul (omega arith)).1 (rw (mul_comm n (2 ^ 32)) (mul-lt-mul_of_pos_right (spread-below name) some))

block_begin-below : (block blocks : ℕ) → 0 < blocks → block_begin block blocks < blocks * 170
unfolding block_begin
block_begin-below block blocks some = home_of-below (block + block / blocks * (block / blocks)) (blocks * 170) (omega arith)

pub block_home-below : (begin name blocks n : ℕ) → begin < blocks * 170 → blocks * 170 ≤ n → block_home begin name < n
unfolding block_home
block_home-below begin name blocks n low few = omega arith

pub paged_home_of-below : (name n : ℕ) → 0 < n → paged_home_of name n < n
unfolding paged_home_of
paged_home_of-below name n some = by_size (nat_lt n 170) refl where
  by_size : (b : Bool) → nat_lt n 170 ≡ b → cond b (home_of name n) (block_home (block_begin (name / 170) (n / 170)) name) < n
  by_size true few = home_of-below name n some
  by_size false many =
      let least : 170 ≤ n = grind (arith, nat_tests) in
      block_home-below (block_begin (name / 170) (n / 170)) name (n / 170) n (block_begin-below (name / 170) (n / 170) (omega arith)) (omega arith)

-- ---- names of one block

pub blocks-are : (name n : ℕ) → 170 ≤ n → paged_home_of name n ≡ block_home (block_begin (name / 170) (n / 170)) name
unfolding paged_home_of
blocks-are name n many = let test : nat_lt n 170 ≡ false = grind (arith, nat_tests) in rw test refl

block_home-shared : (begin a b : ℕ) → block_home begin a / 170 ≡ block_home begin b / 170
unfolding block_home
block_home-shared begin a b = omega arith

block_home-apart : (begin a b : ℕ) → a / 170 ≡ b / 170 → block_home begin a ≡ block_home begin b → a ≡ b
unfolding block_home
block_home-apart begin a b one same = omega arith

begins-are : (a b n : ℕ) → a / 170 ≡ b / 170 → block_begin (a / 170) (n / 170) ≡ block_begin (b / 170) (n / 170)
begins-are a b n one = ap (λ (k : ℕ). block_begin k (n / 170)) one

pub shared-homes : (a b n : ℕ) → 170 ≤ n → a / 170 ≡ b / 170 → paged_home_of a n / 170 ≡ paged_home_of b n / 170
shared-homes a b n many one =
    ap (λ (k : ℕ). k / 170) (blocks-are a n many)
    ∙ ap (λ (k : ℕ). block_home k a / 170) (begins-are a b n one)
    ∙ block_home-shared (block_begin (b / 170) (n / 170)) a b
    ∙ ap (λ (k : ℕ). k / 170) (sym (blocks-are b n many))

pub apart-homes : (a b n : ℕ) → 170 ≤ n → a / 170 ≡ b / 170 → paged_home_of a n ≡ paged_home_of b n → a ≡ b
apart-homes a b n many one same =
    block_home-apart (block_begin (b / 170) (n / 170)) a b one
    (ap (λ (k : ℕ). block_home k a) (sym (begins-are a b n one)) ∙ sym (blocks-are a n many) ∙ same ∙ blocks-are b n many)
