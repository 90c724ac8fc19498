-- Indexes and elements (chapter 29, array and stream primitives).
use Rattle.std.specs.Prelude.{ℕ, ℤ, pos, negsuc, ◌+◌, ◌-◌, ◌*◌, ◌/◌, ◌%◌, ◌==◌, Bool, false, nat_lt, nat_le, List, [], ◌∷◌, length, slice_get, Option, Some, None, is_some, if◌then◌else◌}
use Rattle.std.specs.Option.{option_and_then}
use Rattle.long_names.specs.declared.value.Value.{Value}
use Rattle.long_names.specs.declared.value.Value.TheVariants.{Int}
use Rattle.long_names.specs.declared.object.Body.{Body}
use Rattle.long_names.specs.declared.object.Body.TheVariants.{Pointers, Words, Bytes, Method}
use Rattle.long_names.specs.declared.object.Object.{Object}
use Rattle.long_names.specs.Names.{LARGE_POSITIVE_INTEGER, CHARACTER, CHARACTER_TABLE}
use Rattle.long_names.specs.declared.limits.TheConstants.{SMALL_INTEGERS}
use Rattle.long_names.specs.Words.{unsigned_of}
use Rattle.long_names.specs.Objects.{OfBytes, int_of, is_ref, words_of, bytes_of, text_of}
use Rattle.blue_model.specs.declared.answer.Answer.{Answer}
use Rattle.blue_model.specs.declared.cause.Cause.TheVariants.{Shape}
use Rattle.blue_model.specs.declared.spot.Spot.{Spot}
use Rattle.blue_model.specs.declared.spot.Spot.TheVariants.{Field, Word, Byte}
use Rattle.blue_model.specs.declared.indexes.TheConstants.{CLASS_SIZE, INSTANCE_SPECIFICATION_INDEX, CHARACTER_VALUE_INDEX}
use Rattle.blue_model.specs.declared.limits.TheConstants.{POINTERS_BIT, WORDS_BIT, INDEXABLE_BIT, FIXED_FIELDS}
use Rattle.blue_model.specs.Machine.{Rule, ◌>>=◌, ◌>>◌, done, pick, part, known, class_of, store, store_word, store_byte, make}
use Rattle.blue_model.specs.Parts.{field, number}
use Rattle.blue_model.specs.Trials.{where_some, ◌>>?◌, peek}

-- ---- numbers

-- a number that isn't negative
abbrev pub natural : ℤ → Option ℕ
natural (pos n) = Some n
natural (negsuc n) = None

abbrev pub byte_by : Option ℤ → Option ℕ
byte_by None = None
byte_by (Some (pos n)) = if nat_lt n 256 then Some n else None
byte_by (Some (negsuc n)) = None

-- ---- index arguments (positive16BitValueOf:)

abbrev pub two_bytes : List ℕ → Option ℤ
two_bytes [] = None
two_bytes (low ∷ []) = None
two_bytes (low ∷ high ∷ []) = Some (pos (low + 256 * high))
two_bytes (low ∷ high ∷ b ∷ bs) = None

-- the number that a LargePositiveInteger of two bytes is, lowest byte first
unfoldable pub large_number : Object → Option ℤ
large_number o = if o.class == LARGE_POSITIVE_INTEGER then option_and_then two_bytes (text_of o.body) else None

abbrev pub index_by : Option ℤ → Value → Rule (Option ℤ)
index_by (Some z) v = done (Some z)
index_by None v = peek large_number v

-- a SmallInteger, or a LargePositiveInteger of two bytes
unfoldable pub index_argument : Value → Rule (Option ℤ)
index_argument v = index_by (int_of v) v

-- ---- numbers as answers (positive16BitIntegerFor:)

unfoldable pub make_large : ℕ → Rule Value
make_large n = do
  class ← known LARGE_POSITIVE_INTEGER
  large ← make class (OfBytes 2)
  store_byte large 0 (n % 256)
  store_byte large 1 (n / 256 % 256)
  done large

-- a SmallInteger up to 16,383, and otherwise a new LargePositiveInteger of two bytes
unfoldable pub number_object : ℕ → Rule Value
number_object n = pick (nat_lt n SMALL_INTEGERS) (done (Int (pos n))) (make_large n)

-- ---- instance specifications (chapter 27, classes)

abbrev pub has_pointers : ℤ → Bool
has_pointers specification = unsigned_of specification / POINTERS_BIT == 1

abbrev pub has_words : ℤ → Bool
has_words specification = unsigned_of specification / WORDS_BIT % 2 == 1

abbrev pub is_indexable : ℤ → Bool
is_indexable specification = unsigned_of specification / INDEXABLE_BIT % 2 == 1

abbrev pub fixed_fields : ℤ → ℕ
fixed_fields specification = unsigned_of specification % FIXED_FIELDS

-- of what has a class's shape, and a SmallInteger there
unfoldable pub specification_of : Value → Rule (Option ℤ)
specification_of class = peek (number CLASS_SIZE INSTANCE_SPECIFICATION_INDEX) class

abbrev pub fixed_by : Option ℤ → Option ℕ
fixed_by specification = option_and_then (λ z. Some (fixed_fields z)) specification

-- how many fixed fields an object has (fixedFieldsOf:). A SmallInteger is none
unfoldable pub fixed_of : Value → Rule (Option ℕ)
fixed_of v = pick (is_some (int_of v)) (done None) (do
  class ← class_of v
  specification ← specification_of class
  done (fixed_by specification))

-- ---- elements, counted from 1 behind the fixed fields

-- the bytes of a method are numbered from behind its header and literals, which take two bytes each
abbrev pub code_start : List Value → ℕ
code_start literals = 2 * (length literals + 1)

-- how many values, words or bytes (lengthOf:)
abbrev pub length_in : Body → ℕ
length_in (Pointers values) = length values
length_in (Words words) = length words
length_in (Bytes bytes) = length bytes
length_in (Method header literals code) = code_start literals + length code

unfoldable pub length_of : Object → Option ℕ
length_of o = Some (length_in o.body)

abbrev pub spot_below : (ℕ → Spot) → ℕ → ℕ → Option Spot
spot_below spot e len = if nat_le e len then Some (spot (e - 1)) else None

-- element e of an object, where it has it; e is 1 or more
abbrev pub spot_in : Body → ℕ → Option Spot
spot_in (Pointers values) e = spot_below Field e (length values)
spot_in (Words words) e = spot_below Word e (length words)
spot_in (Bytes bytes) e = spot_below Byte e (length bytes)
spot_in (Method header literals code) e = if nat_lt (code_start literals) e then spot_below Byte (e - code_start literals) (length code) else None

unfoldable pub spot_of : ℕ → Object → Option Spot
spot_of e o = spot_in o.body e

-- element i behind so many fixed fields; i is 1 or more
abbrev pub element_number : ℤ → Option ℕ → Option ℕ
element_number z None = None
element_number (pos n) (Some fixed) = if nat_lt 0 n then Some (n + fixed) else None
element_number (negsuc n) (Some fixed) = None

abbrev pub spot_at : Value → Option ℕ → Rule (Option Spot)
spot_at array None = done None
spot_at array (Some e) = peek (spot_of e) array

abbrev pub is_positive : ℤ → Bool
is_positive (pos n) = nat_lt 0 n
is_positive (negsuc n) = false

-- element i of an object (checkIndexableBoundsOf:in:)
unfoldable pub element_of : Value → ℤ → Rule (Option Spot)
element_of array i = pick (is_positive i) (fixed_of array >>= λ fixed. spot_at array (element_number i fixed)) (done None)

-- variable i of an object: its element i, with no regard to its fixed fields
unfoldable pub variable_of : Value → ℤ → Rule (Option Spot)
variable_of receiver i = spot_at receiver (element_number i (Some 0))

-- ---- reading

unfoldable pub word_at : ℕ → Object → Option ℕ
word_at i o = option_and_then (λ (words : List ℕ). slice_get words i) (words_of o.body)

-- of an object of bytes, or of a method's code
unfoldable pub byte_of_object : ℕ → Object → Option ℕ
byte_of_object i o = option_and_then (λ (bytes : List ℕ). slice_get bytes i) (bytes_of o.body)

-- what stands there, as an answer (subscript:with:)
abbrev pub element_at : Value → Spot → Rule Value
element_at array (Field i) = part Shape (field 0 i) array
element_at array (Word i) = part Shape (word_at i) array >>= number_object
element_at array (Byte i) = part Shape (byte_of_object i) array >>= number_object

-- ---- storing

-- the value is stored where it fits, and the rest is done (subscript:with:storing:): any value into a field, an index argument that
-- isn't negative into a word, and a SmallInteger from 0 to 255 into a byte
abbrev pub put_element : Value → Spot → Value → Rule Answer → Rule Answer
put_element array (Field i) v rest = store array i v >> rest
put_element array (Word i) v rest = index_argument v >>? λ z. where_some (natural z) (λ n. store_word array i n >> rest)
put_element array (Byte i) v rest = where_some (byte_by (int_of v)) (λ n. store_byte array i n >> rest)

-- ---- characters

-- the byte at this place of an object of bytes
abbrev pub text_at : Spot → Object → Option ℕ
text_at (Field i) o = None
text_at (Word i) o = None
text_at (Byte i) o = option_and_then (λ (bytes : List ℕ). slice_get bytes i) (text_of o.body)

-- the character of a byte: its field of the character table
unfoldable pub character_of : ℕ → Rule (Option Value)
character_of byte = known CHARACTER_TABLE >>= peek (field 0 byte)

abbrev pub byte_of_value : Value → Value → Rule (Option ℕ)
byte_of_value class v = pick (is_ref CHARACTER class) (peek (λ o. byte_by (number 0 CHARACTER_VALUE_INDEX o)) v) (done None)

-- the byte of a character: the number in its first field
unfoldable pub byte_of_character : Value → Rule (Option ℕ)
byte_of_character v = class_of v >>= λ class. byte_of_value class v
