-- What a transfer makes of a destination's words, by pixels.
use Rattle.std.specs.Prelude.{ℕ, Bool, true, false, ◌≡◌, ◌+◌, ◌-◌, ◌*◌, ◌/◌, ◌%◌, ◌<◌, ◌≤◌, ◌&&◌, ◌||◌, List, Option, Some, None, length, map, min, slice_index, nat_lt, if◌then◌else◌}
use Rattle.std.specs.List.{range_with_len}
use Rattle.long_names.specs.declared.limits.TheConstants.{MOST_FIELDS}
use Rattle.long_names.specs.Kept.{any_below}
use Rattle.blue_model.specs.declared.limits.TheConstants.{COMBINATION_RULES}
use Rattle.blue_model.specs.Forms.{bit, number_of}
use Rattle.blue_model.specs.BitBlt.{rule_bit, halftone_pixel}
use Rattle.bit_rows.specs.Rows.{within}
use Rattle.bitblt.specs.declared.transfer.Transfer.{Transfer}

-- the pixel in column x and row y of a form whose rows have so many words
abbrev pub pixel_in : ℕ → List ℕ → ℕ → ℕ → ℕ
pixel_in stride words x y = bit words (16 * stride * y + x)

-- the source's pixel for column x and row y of the destination: 1 without a source
unfoldable pub source_pixel : Transfer → Option (List ℕ) → ℕ → ℕ → ℕ
source_pixel t None x y = 1
source_pixel t (Some words) x y = pixel_in t.source_stride words (x - t.left + t.source_left) (y - t.top + t.source_top)

-- whether the pixel is one of those changed
abbrev pub is_changed : Transfer → ℕ → ℕ → Bool
is_changed t x y = within t.left t.right x && within t.top t.bottom y

-- a pixel after the call: all pixels of source, halftone and destination are those before the call
unfoldable pub pixel_after : Transfer → Option (List ℕ) → List ℕ → List ℕ → ℕ → ℕ → ℕ
pixel_after t source halftone words x y =
    if is_changed t x y
    then rule_bit t.rule (min (source_pixel t source x y) (halftone_pixel halftone x y)) (pixel_in t.stride words x y)
    else pixel_in t.stride words x y

-- bit n of the destination's words after the call
unfoldable pub bit_after : Transfer → Option (List ℕ) → List ℕ → List ℕ → ℕ → ℕ
bit_after t source halftone words n = pixel_after t source halftone words (n % (16 * t.stride)) (n / (16 * t.stride))

-- whether it is a pixel that is changed
abbrev pub is_changed_bit : Transfer → ℕ → Bool
is_changed_bit t n = is_changed t (n % (16 * t.stride)) (n / (16 * t.stride))

-- word k after the call; one that has no changed pixel stays
unfoldable pub word_after : Transfer → Option (List ℕ) → List ℕ → List ℕ → ℕ → ℕ
word_after t source halftone words k =
    if any_below 16 (λ j. is_changed_bit t (16 * k + j))
    then number_of (λ j. bit_after t source halftone words (16 * k + j)) 16
    else slice_index words k

-- the destination's words after the call
unfoldable pub words_after : Transfer → Option (List ℕ) → List ℕ → List ℕ → List ℕ
words_after t source halftone words = map (word_after t source halftone words) (range_with_len 0 (length words))

-- ---- numbers

-- the source's rows and columns that are read lie in its words
pub record HasSource (t : Transfer) : Type 0 where
  pub wide : t.source_left + (t.right - t.left) ≤ 16 * t.source_stride
  pub tall : t.source_stride * (t.source_top + (t.bottom - t.top)) ≤ MOST_FIELDS
  pub narrow : t.source_stride ≤ 1024

-- the changed pixels lie within both forms, and there are some
pub record Fits (t : Transfer) : Type 0 where
  pub rule : t.rule < COMBINATION_RULES
  pub columns : t.left < t.right
  pub rows : t.top ≤ t.bottom
  pub wide : t.right ≤ 16 * t.stride
  pub tall : t.stride * t.bottom ≤ MOST_FIELDS
  pub narrow : t.stride ≤ 1024
  pub source : t.has_source ≡ true → HasSource t

-- ---- rows

-- the first word of the run that a row of the destination changes, and how many words it has
abbrev pub run_start : Transfer → ℕ → ℕ
run_start t y = t.stride * y + t.left / 16

abbrev pub run_length : Transfer → ℕ
run_length t = (t.right - 1) / 16 - t.left / 16 + 1

-- the first word of the run of source words that a row reads
abbrev pub source_start : Transfer → ℕ → ℕ
source_start t y = t.source_stride * (y - t.top + t.source_top) + t.source_left / 16

-- the bits of the source's buffer before those of the row's first word
abbrev pub skip_of : Transfer → ℕ
skip_of t = 16 + t.source_left % 16 - t.left % 16

-- whether the words that the row reads begin before those that it writes
unfoldable pub reads_before : Transfer → ℕ → Bool
reads_before t y = if t.has_source then nat_lt (source_start t y) (run_start t y) else false

-- the words of the destination when this row alone is done
unfoldable pub row_words : Transfer → Option (List ℕ) → List ℕ → List ℕ → ℕ → List ℕ
row_words t source halftone words y =
    map (λ k. if within (run_start t y) (run_start t y + run_length t) k then word_after t source halftone words k else slice_index words k) (range_with_len 0 (length words))

-- the rows done when so many of the last rows were visited, from the last one up
unfoldable pub done_up : Transfer → ℕ → ℕ → Bool
done_up t count y = within (t.bottom - count) t.bottom y && reads_before t y

-- the rows done when the others above a row were visited too
unfoldable pub done_down : Transfer → ℕ → ℕ → Bool
done_down t upto y = within t.top upto y || (within t.top t.bottom y && reads_before t y)

-- Some rows are done: the destination's words now are those after the call in these rows, and those before elsewhere.
pub record AreDone (t : Transfer) (source : Option (List ℕ)) (halftone before now : List ℕ) (done : ℕ → Bool) : Type 0 where
  pub words : (k : ℕ) → slice_index now k ≡ (if done (k / t.stride) then word_after t source halftone before k else slice_index before k)
  pub length : length now ≡ length before

-- The words that the source has now: where source and destination are one object, the destination's; else those from before the call.
abbrev pub IsShared : Bool → Option (List ℕ) → List ℕ → Option (List ℕ) → List ℕ → Type 0
IsShared true source before source_now now = (source ≡ Some before) × (source_now ≡ Some now)
IsShared false source before source_now now = source_now ≡ source
