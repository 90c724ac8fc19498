-- Forms (chapter 18): pictures whose pixels are the bits of words, row by row, the highest bit of a word leftmost.
use Rattle.std.specs.Prelude.{zero, suc, ℕ, ℤ, pos, negsuc, ◌+◌, ◌-◌, ◌*◌, ◌/◌, ◌%◌, Bool, nat_lt, nat_le, List, ◌++◌, length, map, codes, decimal, slice_index, Option, Some, None, if◌then◌else◌}
use Rattle.std.specs.Option.{option_and_then}
use Rattle.std.specs.List.{concat, range_with_len}
use Rattle.std.specs.Int.{bit_at}
use Rattle.long_names.specs.declared.value.Value.{Value}
use Rattle.long_names.specs.declared.object.Object.{Object}
use Rattle.long_names.specs.Objects.{words_of}
use Rattle.blue_model.specs.declared.indexes.TheConstants.{BITS_INDEX, WIDTH_INDEX, HEIGHT_INDEX, FORM_SIZE}
use Rattle.blue_model.specs.Machine.{Rule, ◌>>=◌, done}
use Rattle.blue_model.specs.Parts.{field, number}
use Rattle.blue_model.specs.Trials.{peek}

-- ---- bits

-- bit j of a word of 16 bits; bit 0 is the highest
unfoldable pub left_bit : ℕ → ℕ → ℕ
left_bit word j = bit_at word (15 - j)

-- bit n of a list of words
unfoldable pub bit : List ℕ → ℕ → ℕ
bit words n = left_bit (slice_index words (n / 16)) (n % 16)

-- the number that has these k bits, the first one highest
abbrev pub number_of : (ℕ → ℕ) → ℕ → ℕ
number_of f zero = 0
number_of f (suc k) = 2 * number_of f k + f k

-- ---- pixels

-- so many words are a row of a form of this width
abbrev pub row_words : ℕ → ℕ
row_words width = (width + 15) / 16

-- the pixel in column x and row y of a form of this width, which is made of these words
abbrev pub pixel : ℕ → List ℕ → ℕ → ℕ → ℕ
pixel width words x y = bit words (16 * row_words width * y + x)

-- ---- the shape of a form

-- the object that has the bits, and how many columns and rows there are
pub record Form : Type 0 where
  pub bits : Value
  pub width : ℕ
  pub height : ℕ

pub record Extent : Type 0 where
  pub width : ℕ
  pub height : ℕ

-- a number of columns or rows
abbrev pub positive : ℤ → Option ℕ
positive (pos zero) = None
positive (pos (suc n)) = Some (suc n)
positive (negsuc n) = None

abbrev pub extent_by : Option ℕ → Option ℕ → Option Extent
extent_by (Some width) (Some height) = Some (record { width = width; height = height })
extent_by _ _ = None

unfoldable pub extent_of : Object → Option Extent
extent_of o = extent_by (option_and_then positive (number FORM_SIZE WIDTH_INDEX o)) (option_and_then positive (number FORM_SIZE HEIGHT_INDEX o))

-- how many words an object of words has
unfoldable pub word_count : Object → Option ℕ
word_count o = option_and_then (λ (words : List ℕ). Some (length words)) (words_of o.body)

abbrev pub count_of : Option Value → Rule (Option ℕ)
count_of None = done None
count_of (Some bits) = peek word_count bits

abbrev pub form_by : (Extent → ℕ → Bool) → Option Value → Option ℕ → Option Extent → Option Form
form_by enough (Some bits) (Some count) (Some extent) = if enough extent count then Some (record { bits = bits; width = extent.width; height = extent.height }) else None
form_by enough _ _ _ = None

-- what has the fields of a form: bits that are words, so many as are enough, and a width and a height of 1 or more
unfoldable pub form_where : (Extent → ℕ → Bool) → Value → Rule (Option Form)
form_where enough v = do
  bits ← peek (field FORM_SIZE BITS_INDEX) v
  count ← count_of bits
  extent ← peek extent_of v
  done (form_by enough bits count extent)

abbrev pub has_rows : Extent → ℕ → Bool
has_rows extent count = nat_le (row_words extent.width * extent.height) count

-- a form's shape: its bits have all its rows
unfoldable pub form_of : Value → Rule (Option Form)
form_of v = form_where has_rows v

-- ---- a form as a picture (portable bitmap, binary)

-- pixels past the width are white
abbrev pub padded_pixel : ℕ → List ℕ → ℕ → ℕ → ℕ
padded_pixel width words y x = if nat_lt x width then pixel width words x y else 0

-- eight pixels, the leftmost highest
abbrev pub row_byte : ℕ → List ℕ → ℕ → ℕ → ℕ
row_byte width words y j = number_of (λ i. padded_pixel width words y (8 * j + i)) 8

-- the bytes of a row
unfoldable pub row_bytes : ℕ → List ℕ → ℕ → List ℕ
row_bytes width words y = map (row_byte width words y) (range_with_len 0 ((width + 7) / 8))

unfoldable pub picture_head : ℕ → ℕ → List ℕ
picture_head width height = codes "P4\n" ++ decimal width ++ codes " " ++ decimal height ++ codes "\n"

abbrev pub picture_rows : Form → List ℕ → List ℕ
picture_rows f words = concat (map (row_bytes f.width words) (range_with_len 0 f.height))

unfoldable pub picture_text : Form → List ℕ → List ℕ
picture_text f words = picture_head f.width f.height ++ picture_rows f words
