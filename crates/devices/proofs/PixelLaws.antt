-- Pixels of a row, and rows of a picture.
use Rattle.std.proofs.Common.{◌≡◌, ℕ, add-one, ◌<◌, ◌+◌, ◌-◌, ◌*◌, ◌/◌, ◌%◌, ◌^◌, List, [], ◌∷◌, ◌++◌, length, map, take, set, get_or, refl, sym, ◌∙◌, ap, ap₂, arith}
use Rattle.std.specs.List.{range_with_len}
use Rattle.std.proofs.Math.Seq.{take-suc-set}
use Rattle.std.proofs.lemmas.List.FromFn.{map-range_with_len_more}
use Rattle.blue_model.specs.Forms.{left_bit, bit, pixel, row_words, row_byte}

-- in the first row the words are numbered from 0
pub pixel_is : (words : List ℕ) (width x : ℕ) → pixel width words x 0 ≡ bit words x
pixel_is words width x = let none : 16 * row_words width * 0 + x ≡ x = omega arith in ap (bit words) none

pub bit_is : (words : List ℕ) (x : ℕ) → bit words x ≡ get_or words (x / 16) 0 / 2 ^ (15 - x % 16) % 2
unfolding bit left_bit
bit_is words x = refl

-- one byte more
pub bytes_more : (out : List ℕ) (width j byte : ℕ) (words : List ℕ) → j < length out → take j out ≡ map (row_byte width words 0) (range_with_len 0 j) → byte ≡ row_byte width words 0 j → take (j + 1) (set out j byte) ≡ map (row_byte width words 0) (range_with_len 0 (j + 1))
bytes_more out width j byte words low before is =
    rw (add-one) (take-suc-set out j byte low)
    ∙ ap₂ (λ (xs : List ℕ) (b : ℕ). xs ++ b ∷ []) before is
    ∙ sym (map-range_with_len_more (row_byte width words 0) 0 j j (omega arith))
