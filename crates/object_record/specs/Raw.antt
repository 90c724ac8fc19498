-- Raw records: records whose fields are long words, whether or not these are values; their texts, their parts, and how a part is set.
use Rattle.std.specs.Prelude.{◌≡◌, ℕ, ◌+◌, ◌*◌, ◌^◌, ◌<◌, ◌≤◌, List, [], ◌++◌, length, map, replicate, All, Option, Some, None, slice_set}
use Rattle.std.specs.List.{flat_map}
use Rattle.long_names.specs.Names.{IsLongName}
use Rattle.long_names.specs.Words.{literal_count, long_word, value_of}
use Rattle.long_names.specs.declared.limits.TheConstants.{MOST_CODE, MOST_LITERALS}
use Rattle.long_names.specs.Record.{two_bytes, four_bytes, eight_bytes, kind_number, words_text, padding}
use Rattle.object_record.specs.declared.offsets.TheConstants.{CONTENTS_AT}
use Rattle.long_names.specs.declared.value.Value.{Value}
use Rattle.long_names.specs.declared.value.Value.TheVariants.{Int, Ref}
use Rattle.long_names.specs.declared.object.Kind.{Kind}
use Rattle.long_names.specs.declared.object.Kind.TheVariants as kind
use Rattle.long_names.specs.declared.object.Body.{Body}
use Rattle.long_names.specs.declared.object.Body.TheVariants as body
use Rattle.long_names.specs.declared.object.Rec.{Rec}

-- long words, words, bytes, or a method of a header's long word, its literals' long words and its code
pub data RawBody : Type 0 where
  RawPointers : (longs : List ℕ) → RawBody
  RawWords : (words : List ℕ) → RawBody
  RawBytes : (bytes : List ℕ) → RawBody
  RawMethod : (header : ℕ) → (literals : List ℕ) → (code : List ℕ) → RawBody

pub record RawRecord : Type 0 where
  pub name : ℕ
  pub class : ℕ
  pub count : ℕ
  pub body : RawBody

-- ---- parts

abbrev pub raw_kind : RawBody → Kind
raw_kind (RawPointers longs) = kind.Pointers
raw_kind (RawWords words) = kind.Words
raw_kind (RawBytes bytes) = kind.Bytes
raw_kind (RawMethod header literals code) = kind.Method

-- how many long words, words, bytes, or code bytes of a method
abbrev pub raw_len : RawBody → ℕ
raw_len (RawPointers longs) = length longs
raw_len (RawWords words) = length words
raw_len (RawBytes bytes) = length bytes
raw_len (RawMethod header literals code) = length code

-- the fields: of a method its literals
abbrev pub longs_of : RawBody → List ℕ
longs_of (RawPointers longs) = longs
longs_of (RawWords words) = []
longs_of (RawBytes bytes) = []
longs_of (RawMethod header literals code) = literals

-- how many literals; none but of a method
abbrev pub raw_literals : RawBody → ℕ
raw_literals (RawPointers longs) = 0
raw_literals (RawWords words) = 0
raw_literals (RawBytes bytes) = 0
raw_literals (RawMethod header literals code) = length literals

-- the header's long word; 0 where there is none
abbrev pub raw_header : RawBody → ℕ
raw_header (RawPointers longs) = 0
raw_header (RawWords words) = 0
raw_header (RawBytes bytes) = 0
raw_header (RawMethod header literals code) = header

abbrev pub raw_words : RawBody → List ℕ
raw_words (RawPointers longs) = []
raw_words (RawWords words) = words
raw_words (RawBytes bytes) = []
raw_words (RawMethod header literals code) = []

-- the bytes, or a method's code
abbrev pub raw_bytes : RawBody → List ℕ
raw_bytes (RawPointers longs) = []
raw_bytes (RawWords words) = []
raw_bytes (RawBytes bytes) = bytes
raw_bytes (RawMethod header literals code) = code

-- ---- one part set, all others as they are

abbrev pub body_with_long : RawBody → ℕ → ℕ → RawBody
body_with_long (RawPointers longs) i long = RawPointers (slice_set longs i long)
body_with_long (RawWords words) i long = RawWords words
body_with_long (RawBytes bytes) i long = RawBytes bytes
body_with_long (RawMethod header literals code) i long = RawMethod header (slice_set literals i long) code

abbrev pub body_with_header : RawBody → ℕ → RawBody
body_with_header (RawPointers longs) long = RawPointers longs
body_with_header (RawWords words) long = RawWords words
body_with_header (RawBytes bytes) long = RawBytes bytes
body_with_header (RawMethod header literals code) long = RawMethod long literals code

abbrev pub body_with_word : RawBody → ℕ → ℕ → RawBody
body_with_word (RawPointers longs) i word = RawPointers longs
body_with_word (RawWords words) i word = RawWords (slice_set words i word)
body_with_word (RawBytes bytes) i word = RawBytes bytes
body_with_word (RawMethod header literals code) i word = RawMethod header literals code

abbrev pub body_with_byte : RawBody → ℕ → ℕ → RawBody
body_with_byte (RawPointers longs) i byte = RawPointers longs
body_with_byte (RawWords words) i byte = RawWords words
body_with_byte (RawBytes bytes) i byte = RawBytes (slice_set bytes i byte)
body_with_byte (RawMethod header literals code) i byte = RawMethod header literals (slice_set code i byte)

-- with another body
abbrev pub with_raw : RawRecord → RawBody → RawRecord
with_raw r body = record { name = r.name; class = r.class; count = r.count; body = body }

-- with another name
abbrev pub with_name : RawRecord → ℕ → RawRecord
with_name r name = record { name = name; class = r.class; count = r.count; body = r.body }

abbrev pub with_long : RawRecord → ℕ → ℕ → RawRecord
with_long r i long = with_raw r (body_with_long r.body i long)

abbrev pub with_header : RawRecord → ℕ → RawRecord
with_header r long = with_raw r (body_with_header r.body long)

abbrev pub with_word : RawRecord → ℕ → ℕ → RawRecord
with_word r i word = with_raw r (body_with_word r.body i word)

abbrev pub with_byte : RawRecord → ℕ → ℕ → RawRecord
with_byte r i byte = with_raw r (body_with_byte r.body i byte)

-- ---- what a raw record may be

-- the number of literals that a header states, if its long word is that of a SmallInteger
abbrev pub stated_by : Option Value → Option ℕ
stated_by (Some (Int z)) = Some (literal_count z)
stated_by (Some (Ref n)) = None
stated_by None = None

abbrev pub stated_literals : ℕ → Option ℕ
stated_literals header = stated_by (value_of header)

-- the sizes of objects; a method's header states how many literals follow it
abbrev pub HasRawSize : RawBody → Type 0
HasRawSize (RawPointers longs) = length longs < 2 ^ 16
HasRawSize (RawWords words) = length words < 2 ^ 16
HasRawSize (RawBytes bytes) = length bytes < 2 ^ 16
HasRawSize (RawMethod header literals code) = (stated_literals header ≡ Some (length literals)) × (length code ≤ MOST_CODE)

-- long words have 32 bits, words 16 and bytes 8
abbrev pub HasRawRange : RawBody → Type 0
HasRawRange (RawPointers longs) = All (λ w. w < 2 ^ 32) longs
HasRawRange (RawWords words) = All (λ w. w < 2 ^ 16) words
HasRawRange (RawBytes bytes) = All (λ b. b < 2 ^ 8) bytes
HasRawRange (RawMethod header literals code) = (header < 2 ^ 32) × All (λ w. w < 2 ^ 32) literals × All (λ b. b < 2 ^ 8) code

-- a raw record: nothing is asked of its fields, and nothing of the count
pub record IsRawRecord (r : RawRecord) : Type 0 where
  pub name : IsLongName r.name
  pub class : IsLongName r.class
  pub count : r.count < 2 ^ 64
  pub size : HasRawSize r.body
  pub range : HasRawRange r.body

-- ---- texts

abbrev pub longs_text : List ℕ → List ℕ
longs_text longs = flat_map four_bytes longs

abbrev pub raw_contents : RawBody → List ℕ
raw_contents (RawPointers longs) = longs_text longs
raw_contents (RawWords words) = words_text words
raw_contents (RawBytes bytes) = bytes
raw_contents (RawMethod header literals code) = four_bytes (length literals) ++ (four_bytes header ++ (longs_text literals ++ code))

-- how many bytes the contents have
abbrev pub raw_size : RawBody → ℕ
raw_size (RawPointers longs) = 4 * length longs
raw_size (RawWords words) = 2 * length words
raw_size (RawBytes bytes) = length bytes
raw_size (RawMethod header literals code) = 8 + 4 * length literals + length code

-- and how many with name, class, count, kind and size
abbrev pub raw_end : RawBody → ℕ
raw_end body = CONTENTS_AT + raw_size body

-- the bytes of the record, with zeros up to a multiple of four
unfoldable pub raw_text : RawRecord → List ℕ
raw_text r =
    four_bytes r.name
    ++ (four_bytes r.class
    ++ (eight_bytes r.count
    ++ (two_bytes (kind_number (raw_kind r.body))
    ++ (two_bytes (raw_len r.body)
    ++ (raw_contents r.body
    ++ replicate (padding (raw_end r.body)) 0)))))

-- ---- the record of an object, raw

abbrev pub raw_body : Body → RawBody
raw_body (body.Pointers values) = RawPointers (map long_word values)
raw_body (body.Words words) = RawWords words
raw_body (body.Bytes bytes) = RawBytes bytes
raw_body (body.Method header literals code) = RawMethod (long_word (Int header)) (map long_word literals) code

abbrev pub raw_record : Rec → RawRecord
raw_record r = record { name = r.name; class = r.class; count = r.count; body = raw_body r.body }

-- ---- new records

-- all zeros; a method's header states its literals and nothing else
abbrev pub blank_body : Kind → ℕ → ℕ → RawBody
blank_body kind.Pointers len literals = RawPointers (replicate len 0)
blank_body kind.Words len literals = RawWords (replicate len 0)
blank_body kind.Bytes len literals = RawBytes (replicate len 0)
blank_body kind.Method len literals = RawMethod (2 * literals + 1) (replicate literals 0) (replicate len 0)

abbrev pub blank_record : ℕ → ℕ → Kind → ℕ → ℕ → RawRecord
blank_record name class k len literals = record { name = name; class = class; count = 0; body = blank_body k len literals }

-- sizes that an object of this kind may have
abbrev pub CanBlank : Kind → ℕ → ℕ → Type 0
CanBlank kind.Pointers len literals = (len < 2 ^ 16) × (literals ≡ 0)
CanBlank kind.Words len literals = (len < 2 ^ 16) × (literals ≡ 0)
CanBlank kind.Bytes len literals = (len < 2 ^ 16) × (literals ≡ 0)
CanBlank kind.Method len literals = (len ≤ MOST_CODE) × (literals ≤ MOST_LITERALS)
