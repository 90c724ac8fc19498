-- Marks of blocks, a bit for each.
use Rattle.std.proofs.Common.{◌≡◌, ◌≢◌, ℕ, ◌*◌, ◌/◌, ◌%◌, ◌^◌, ◌<◌, ◌≤◌, ◌⊎◌, ◌==◌, ◌||◌, true, false, List, length, get_or, replicate, slice_set, bit_or, sym, ap, ◌∙◌, arith, inl, inr, w64}
use Rattle.std.proofs.lemmas.Bool.Decides.{nat_tests}
use Rattle.std.proofs.lemmas.List.{get_or-set_same, get_or-set_other, get_or-replicate, get_or_past}
use Rattle.std.proofs.Math.ListN.{length-replicate}
use Rattle.std.proofs.lemmas.Bool.{cases_lt}
use Rattle.std.proofs.lemmas.Nat.Bits.{bit_at-zero, bit_at_set_same, bit_at_set_other}
use Rattle.std.specs.Int.{bit_at}
use Rattle.probing.proofs.TableLaws.{equal_or_not}

abbrev marked : List ℕ → ℕ → ℕ
marked words block = bit_at (get_or words (block / 64) 0) (block % 64)

abbrev zeros : ℕ → List ℕ
zeros n = replicate n 0

pub none-marked : (n block : ℕ) → (marked (zeros n) block == 1) ≡ false
none-marked n block = ap (λ (k : ℕ). bit_at k (block % 64) == 1) (nought (cases_lt (block / 64) n)) ∙ ap (λ (k : ℕ). k == 1) (bit_at-zero (block % 64)) where
  nought : (block / 64 < n) ⊎ (n ≤ block / 64) → get_or (zeros n) (block / 64) 0 ≡ 0
  nought (inl low) = get_or-replicate n (block / 64) 0 0 low
  nought (inr high) = get_or_past (zeros n) (block / 64) 0 (let size : length (zeros n) ≡ n = length-replicate n 0 in omega (arith, size, high))

module _ (words : List ℕ) (block : ℕ) (within : block / 64 < length words) where
  abbrev word : ℕ
  word = bit_or (get_or words (block / 64) 0) (1 * 2 ^ (block % 64) % 2 ^ 64)

  abbrev now : List ℕ
  now = slice_set words (block / 64) word

  here : marked now block ≡ 1
  here = ap (λ k. bit_at k (block % 64)) (get_or-set_same words (block / 64) word 0 within)
      ∙ bit_at_set_same w64 (get_or words (block / 64) 0) (block % 64) (omega arith)

  there : (other : ℕ) → other ≢ block → marked now other ≡ marked words other
  there other away = by_word (equal_or_not (other / 64) (block / 64)) where
    by_word : (other / 64 ≡ block / 64) ⊎ (other / 64 ≢ block / 64) → marked now other ≡ marked words other
    by_word (inl same) =
        let bits : other % 64 ≢ block % 64 = λ e. away (omega arith) in
        ap (λ k. bit_at (get_or now k 0) (other % 64)) same
        ∙ ap (λ k. bit_at k (other % 64)) (get_or-set_same words (block / 64) word 0 within)
        ∙ bit_at_set_other w64 (get_or words (block / 64) 0) (block % 64) (omega arith) (other % 64) bits
        ∙ ap (λ k. bit_at (get_or words k 0) (other % 64)) (sym same)
    by_word (inr apart) = ap (λ k. bit_at k (other % 64)) (get_or-set_other words (block / 64) (other / 64) word 0 apart)

  pub set-marks : (other : ℕ) → (marked now other == 1) ≡ (other == block || marked words other == 1)
  set-marks other = by_place (equal_or_not other block) where
    by_place : (other ≡ block) ⊎ (other ≢ block) → (marked now other == 1) ≡ (other == block || marked words other == 1)
    by_place (inl is) =
        let test : (other == block) ≡ true = grind (arith, nat_tests) in
        let one : (marked now other == 1) ≡ true = ap (λ k. marked now k == 1) is ∙ ap (λ k. k == 1) here in
        rw test one
    by_place (inr away) =
        let test : (other == block) ≡ false = grind (arith, nat_tests) in
        rw test (ap (λ k. k == 1) (there other away))
