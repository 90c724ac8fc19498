-- BitBlt (chapter 18, and primitiveCopyBits of chapter 29), pixel by pixel: all pixels of source, halftone and destination are those
-- before the call, also where they share bits.
use Rattle.std.specs.Prelude.{ℕ, ℤ, pos, negsuc, ◌+ℤ◌, ◌-ℤ◌, ◌+◌, ◌-◌, ◌*◌, ◌/◌, ◌%◌, ◌&&◌, Bool, true, nat_lt, nat_le, min, max, List, [], ◌∷◌, length, map, replicate, slice_index, Option, Some, None, is_some, int_le, int_lt, if◌then◌else◌}
use Rattle.std.specs.Option.{option_and_then}
use Rattle.std.specs.List.{range_with_len}
use Rattle.long_names.specs.declared.value.Value.{Value}
use Rattle.long_names.specs.declared.object.Object.{Object}
use Rattle.long_names.specs.Objects.{words_of, with_words}
use Rattle.long_names.specs.Kept.{any_below}
use Rattle.long_names.specs.State.{part_at}
use Rattle.blue_model.specs.declared.answer.Answer.{Answer}
use Rattle.blue_model.specs.declared.answer.Answer.TheVariants.{Done}
use Rattle.blue_model.specs.declared.cause.Cause.TheVariants.{Shape}
use Rattle.blue_model.specs.declared.indexes.TheConstants.{BITBLT_SIZE, DEST_FORM_INDEX, SOURCE_FORM_INDEX, HALFTONE_FORM_INDEX, COMBINATION_RULE_INDEX, DEST_X_INDEX, DEST_Y_INDEX, BLIT_WIDTH_INDEX, BLIT_HEIGHT_INDEX, SOURCE_X_INDEX, SOURCE_Y_INDEX, CLIP_X_INDEX, CLIP_Y_INDEX, CLIP_WIDTH_INDEX, CLIP_HEIGHT_INDEX}
use Rattle.blue_model.specs.declared.limits.TheConstants.{COMBINATION_RULES}
use Rattle.blue_model.specs.declared.primitives.TheConstants.{PRIMITIVE_COPY_BITS}
use Rattle.blue_model.specs.Machine.{Rule, ◌>>=◌, ◌>>◌, done, pick, changed, part}
use Rattle.blue_model.specs.Parts.{is_nil, field, number}
use Rattle.blue_model.specs.Contexts.{stack}
use Rattle.blue_model.specs.Trials.{Primitive, ◌>>?◌, peek}
use Rattle.blue_model.specs.Storage.{row}
use Rattle.blue_model.specs.Forms.{Form, Extent, row_words, pixel, left_bit, number_of, form_of, form_where}

-- ---- the rules

abbrev pub not_bit : ℕ → ℕ
not_bit b = 1 - b

-- what a rule makes of two bits, s of the source and d of the destination
unfoldable pub rule_bit : ℕ → ℕ → ℕ → ℕ
rule_bit rule s d =
    slice_index (
    0  -- 0 zero
    ∷ min s d  -- 1 s and d
    ∷ min s (not_bit d)  -- 2 s and not d
    ∷ s  -- 3 s
    ∷ min (not_bit s) d  -- 4 not s and d
    ∷ d  -- 5 d
    ∷ (s + d) % 2  -- 6 s xor d
    ∷ max s d  -- 7 s or d
    ∷ not_bit (max s d)  -- 8 not (s or d)
    ∷ not_bit ((s + d) % 2)  -- 9 not (s xor d)
    ∷ not_bit d  -- 10 not d
    ∷ max s (not_bit d)  -- 11 s or not d
    ∷ not_bit s  -- 12 not s
    ∷ max (not_bit s) d  -- 13 not s or d
    ∷ not_bit (min s d)  -- 14 not (s and d)
    ∷ 1  -- 15 one
    ∷ []) rule

-- ---- what is asked for

-- two rectangles, in the destination and for clipping, and a place in the source
pub record Asked : Type 0 where
  pub rule : ℕ
  pub dest_x : ℤ
  pub dest_y : ℤ
  pub width : ℤ
  pub height : ℤ
  pub source_x : ℤ
  pub source_y : ℤ
  pub clip_x : ℤ
  pub clip_y : ℤ
  pub clip_width : ℤ
  pub clip_height : ℤ

-- the pixels from a place on, so many
abbrev pub spans : ℤ → ℤ → ℤ → Bool
spans at extent x = int_le at x && int_lt x (at +ℤ extent)

-- on one axis: a place has its place in the source, where there is a source
abbrev pub has_source_place : ℤ → ℤ → Option ℕ → ℤ → Bool
has_source_place at source_at None x = true
has_source_place at source_at (Some extent) x = spans (pos 0) (pos extent) (x -ℤ at +ℤ source_at)

-- on one axis: a place that is changed is in the destination rectangle, in the clipping rectangle and in the destination form
abbrev pub is_changed_place : ℤ → ℤ → ℤ → ℤ → ℕ → ℤ → Option ℕ → ℕ → Bool
is_changed_place at extent clip_at clip_extent form source_at source x =
    spans at extent (pos x) && (spans clip_at clip_extent (pos x) && (spans (pos 0) (pos form) (pos x) && has_source_place at source_at source (pos x)))

abbrev pub width_of : Option Form → Option ℕ
width_of source = option_and_then (λ (f : Form). Some f.width) source

abbrev pub height_of : Option Form → Option ℕ
height_of source = option_and_then (λ (f : Form). Some f.height) source

abbrev pub is_changed_column : Asked → Form → Option Form → ℕ → Bool
is_changed_column q dest source = is_changed_place q.dest_x q.width q.clip_x q.clip_width dest.width q.source_x (width_of source)

abbrev pub is_changed_row : Asked → Form → Option Form → ℕ → Bool
is_changed_row q dest source = is_changed_place q.dest_y q.height q.clip_y q.clip_height dest.height q.source_y (height_of source)

-- ---- pixels after the call

-- a place that isn't negative, as a number
abbrev pub place : ℤ → ℕ
place (pos n) = n
place (negsuc n) = 0

-- the source's pixel, 1 without a source
abbrev pub source_pixel : Asked → Option Form → List ℕ → ℕ → ℕ → ℕ
source_pixel q None words x y = 1
source_pixel q (Some f) words x y = pixel f.width words (place (pos x -ℤ q.dest_x +ℤ q.source_x)) (place (pos y -ℤ q.dest_y +ℤ q.source_y))

-- the halftone's pixel: 16 words are repeated in both directions
abbrev pub halftone_pixel : List ℕ → ℕ → ℕ → ℕ
halftone_pixel words x y = left_bit (slice_index words (y % 16)) (x % 16)

-- a pixel after the call, of these words of the destination, the source and the halftone before it
unfoldable pub copied_pixel : Asked → Form → Option Form → List ℕ → List ℕ → List ℕ → ℕ → ℕ → ℕ
copied_pixel q dest source words from tone x y =
    if is_changed_column q dest source x && is_changed_row q dest source y
    then rule_bit q.rule (min (source_pixel q source from x y) (halftone_pixel tone x y)) (pixel dest.width words x y)
    else pixel dest.width words x y

-- bit n of the destination's words after the call
abbrev pub copied_bit : Asked → Form → Option Form → List ℕ → List ℕ → List ℕ → ℕ → ℕ
copied_bit q dest source words from tone n = copied_pixel q dest source words from tone (n % (16 * row_words dest.width)) (n / (16 * row_words dest.width))

-- bit n of the destination's words is a pixel that is changed
abbrev pub is_changed_bit : Asked → Form → Option Form → ℕ → Bool
is_changed_bit q dest source n = is_changed_column q dest source (n % (16 * row_words dest.width)) && is_changed_row q dest source (n / (16 * row_words dest.width))

-- word k after the call; one that has no changed pixel stays
abbrev pub copied_word : Asked → Form → Option Form → List ℕ → List ℕ → List ℕ → ℕ → ℕ
copied_word q dest source words from tone k =
    if any_below 16 (λ j. is_changed_bit q dest source (16 * k + j))
    then number_of (λ j. copied_bit q dest source words from tone (16 * k + j)) 16
    else slice_index words k

-- the destination's words after the call
unfoldable pub copied_words : Asked → Form → Option Form → List ℕ → List ℕ → List ℕ → List ℕ
copied_words q dest source words from tone = map (copied_word q dest source words from tone) (range_with_len 0 (length words))

-- ---- the primitive

-- the number of a rule
abbrev pub rule_number : ℤ → Option ℕ
rule_number (pos n) = if nat_lt n COMBINATION_RULES then Some n else None
rule_number (negsuc n) = None

unfoldable pub blit_number : ℕ → Object → Option ℤ
blit_number i o = number BITBLT_SIZE i o

-- what a BitBlt's fields 3 to 13 ask for
unfoldable pub asked_of : Object → Option Asked
asked_of o =
    option_and_then (λ rule. option_and_then (λ dest_x. option_and_then (λ dest_y. option_and_then (λ width. option_and_then (λ height.
    option_and_then (λ source_x. option_and_then (λ source_y. option_and_then (λ clip_x. option_and_then (λ clip_y.
    option_and_then (λ clip_width. option_and_then (λ clip_height.
    Some (record { rule = rule; dest_x = dest_x; dest_y = dest_y; width = width; height = height; source_x = source_x; source_y = source_y; clip_x = clip_x; clip_y = clip_y; clip_width = clip_width; clip_height = clip_height }))
    (blit_number CLIP_HEIGHT_INDEX o)) (blit_number CLIP_WIDTH_INDEX o)) (blit_number CLIP_Y_INDEX o)) (blit_number CLIP_X_INDEX o))
    (blit_number SOURCE_Y_INDEX o)) (blit_number SOURCE_X_INDEX o)) (blit_number BLIT_HEIGHT_INDEX o)) (blit_number BLIT_WIDTH_INDEX o))
    (blit_number DEST_Y_INDEX o)) (blit_number DEST_X_INDEX o)) (option_and_then rule_number (blit_number COMBINATION_RULE_INDEX o))

-- a form, or nil for none
abbrev pub some_form : Option Form → Option (Option Form)
some_form f = option_and_then (λ (form : Form). Some (Some form)) f

unfoldable pub form_or_nil : (Value → Rule (Option Form)) → Value → Rule (Option (Option Form))
form_or_nil shape v = pick (is_nil v) (done (Some None)) (shape v >>= λ f. done (some_form f))

-- a halftone's bits have 16 words or more; its rows aren't asked for
abbrev pub has_sixteen : Extent → ℕ → Bool
has_sixteen extent count = nat_le 16 count

unfoldable pub words_in : Object → Option (List ℕ)
words_in o = words_of o.body

-- the words of a form, and others where there is none
abbrev pub words_or : List ℕ → Option Form → Rule (List ℕ)
words_or others None = done others
words_or others (Some f) = part Shape words_in f.bits

-- the words of an object of words
unfoldable pub put_words : Value → List ℕ → Rule (Unit {0})
put_words of words m = changed m of (λ b. with_words b 0 words) (is_some (part_at m.heap of words_of))

-- 16 words of black
abbrev pub black : List ℕ
black = replicate 16 65535

unfoldable pub copy : Asked → Form → Option Form → Option Form → Rule (Unit {0})
copy q dest source tone = do
  words ← part Shape words_in dest.bits
  from ← words_or [] source
  halftone ← words_or black tone
  put_words dest.bits (copied_words q dest source words from halftone)

-- primitiveCopyBits: the receiver, which is the answer, stays on the stack
unfoldable pub copy_bits : Rule Answer
copy_bits = do
  blit ← stack 0
  peek asked_of blit >>? λ q. peek (field BITBLT_SIZE DEST_FORM_INDEX) blit >>? λ dest_form. form_of dest_form >>? λ dest.
      peek (field BITBLT_SIZE SOURCE_FORM_INDEX) blit >>? λ source_form. form_or_nil form_of source_form >>? λ source.
      peek (field BITBLT_SIZE HALFTONE_FORM_INDEX) blit >>? λ tone_form. form_or_nil (form_where has_sixteen) tone_form >>? λ tone.
      copy q dest source tone >> done Done

unfoldable pub blit_primitives : List Primitive
blit_primitives = row PRIMITIVE_COPY_BITS 0 copy_bits ∷ []
