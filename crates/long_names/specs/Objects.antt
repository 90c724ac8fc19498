-- Objects: a class and a body (chapter 30 of the Blue Book), what they may be, their parts, and what they hold.
use Rattle.std.specs.Prelude.{◌≡◌, ℕ, ℤ, ◌+◌, ◌/◌, ◌^◌, ◌<◌, ◌≤◌, ◌==◌, ◌||◌, Bool, false, List, [], ◌++◌, length, take, drop, replicate, All, count_by, Option, Some, None, if◌then◌else◌, slice_get, slice_set}
use Rattle.std.specs.List.{list_any}
use Rattle.long_names.specs.Names.{IsLongName, NIL}
use Rattle.long_names.specs.Words.{IsSmallInteger, IsValue, literal_count}
use Rattle.long_names.specs.declared.value.Value.{Value}
use Rattle.long_names.specs.declared.value.Value.TheVariants.{Int, Ref}
use Rattle.long_names.specs.declared.object.Kind.{Kind}
use Rattle.long_names.specs.declared.object.Kind.TheVariants as kind
use Rattle.long_names.specs.declared.object.Body.{Body}
use Rattle.long_names.specs.declared.object.Body.TheVariants.{Pointers, Words, Bytes, Method}
use Rattle.long_names.specs.declared.object.Object.{Object}
use Rattle.long_names.specs.declared.object.Rec.{Rec}
pub use Rattle.long_names.specs.declared.limits.TheConstants.{MOST_CODE, MOST_FIELDS}

-- ---- values

-- the name that a value is, if it is one
abbrev pub name_of : Value → Option ℕ
name_of (Int z) = None
name_of (Ref n) = Some n

-- the number that a value is, if it is one
abbrev pub int_of : Value → Option ℤ
int_of (Int z) = Some z
int_of (Ref n) = None

-- the value is this name
abbrev pub is_ref : ℕ → Value → Bool
is_ref n (Int z) = false
is_ref n (Ref m) = m == n

-- ---- bodies

abbrev pub kind_of : Body → Kind
kind_of (Pointers values) = kind.Pointers
kind_of (Words words) = kind.Words
kind_of (Bytes bytes) = kind.Bytes
kind_of (Method header literals code) = kind.Method

-- how many values, words, bytes, or code bytes of a method
abbrev pub len_of : Body → ℕ
len_of (Pointers values) = length values
len_of (Words words) = length words
len_of (Bytes bytes) = length bytes
len_of (Method header literals code) = length code

-- the fields: the values of an object of pointers, or the literals of a method, whose header is none
abbrev pub fields_of : Body → List Value
fields_of (Pointers values) = values
fields_of (Words words) = []
fields_of (Bytes bytes) = []
fields_of (Method header literals code) = literals

-- ---- what an object may be

-- an object of pointers has at most 65,535 values, one of words or bytes as many; a method has as many literals as its header says, and at most 16,000 bytes of code
abbrev pub HasSize : Body → Type 0
HasSize (Pointers values) = length values < MOST_FIELDS + 1
HasSize (Words words) = length words < MOST_FIELDS + 1
HasSize (Bytes bytes) = length bytes < MOST_FIELDS + 1
HasSize (Method header literals code) = IsSmallInteger header × (length literals ≡ literal_count header) × (length code ≤ MOST_CODE)

-- words have 16 bits, and bytes 8
abbrev pub HasRange : Body → Type 0
HasRange (Pointers values) = Unit {0}
HasRange (Words words) = All (λ w. w < 2 ^ 16) words
HasRange (Bytes bytes) = All (λ b. b < 2 ^ 8) bytes
HasRange (Method header literals code) = All (λ b. b < 2 ^ 8) code

-- a body that an object may have
pub record IsBody (body : Body) : Type 0 where
  pub size : HasSize body
  pub fields : All IsValue (fields_of body)

-- an object whose class is a name, with a body that an object may have
pub record IsObject (o : Object) : Type 0 where
  pub class : IsLongName o.class
  pub body : IsBody o.body
  pub range : HasRange o.body

-- a record that an image may have
pub record IsRecord (r : Rec) : Type 0 where
  pub name : IsLongName r.name
  pub class : IsLongName r.class
  pub count : r.count < 2 ^ 64
  pub body : IsBody r.body
  pub range : HasRange r.body

-- ---- parts

abbrev pub header_of : Body → Option ℤ
header_of (Pointers values) = None
header_of (Words words) = None
header_of (Bytes bytes) = None
header_of (Method header literals code) = Some header

-- field i: a value, or a literal of a method
abbrev pub field_of : Body → ℕ → Option Value
field_of body i = slice_get (fields_of body) i

-- the values of an object of pointers alone
abbrev pub pointers_of : Body → Option (List Value)
pointers_of (Pointers values) = Some values
pointers_of (Words words) = None
pointers_of (Bytes bytes) = None
pointers_of (Method header literals code) = None

-- the literals of a method alone
abbrev pub literals_of : Body → Option (List Value)
literals_of (Pointers values) = None
literals_of (Words words) = None
literals_of (Bytes bytes) = None
literals_of (Method header literals code) = Some literals

abbrev pub words_of : Body → Option (List ℕ)
words_of (Pointers values) = None
words_of (Words words) = Some words
words_of (Bytes bytes) = None
words_of (Method header literals code) = None

-- the bytes of an object of bytes, or a method's code
abbrev pub bytes_of : Body → Option (List ℕ)
bytes_of (Pointers values) = None
bytes_of (Words words) = None
bytes_of (Bytes bytes) = Some bytes
bytes_of (Method header literals code) = Some code

-- the bytes of an object of bytes alone
abbrev pub text_of : Body → Option (List ℕ)
text_of (Pointers values) = None
text_of (Words words) = None
text_of (Bytes bytes) = Some bytes
text_of (Method header literals code) = None

abbrev pub with_field : Body → ℕ → Value → Body
with_field (Pointers values) i v = Pointers (slice_set values i v)
with_field (Words words) i v = Words words
with_field (Bytes bytes) i v = Bytes bytes
with_field (Method header literals code) i v = Method header (slice_set literals i v) code

-- with these words from a place on, or these bytes
abbrev pub put_run : List ℕ → ℕ → List ℕ → List ℕ
put_run old at run = take at old ++ run ++ drop (at + length run) old

abbrev pub with_words : Body → ℕ → List ℕ → Body
with_words (Pointers values) at run = Pointers values
with_words (Words words) at run = Words (put_run words at run)
with_words (Bytes bytes) at run = Bytes bytes
with_words (Method header literals code) at run = Method header literals code

abbrev pub with_bytes : Body → ℕ → List ℕ → Body
with_bytes (Pointers values) at run = Pointers values
with_bytes (Words words) at run = Words words
with_bytes (Bytes bytes) at run = Bytes (put_run bytes at run)
with_bytes (Method header literals code) at run = Method header literals (put_run code at run)

-- ---- new objects

-- what a new object is made of: so many nils, words that are 0, bytes that are 0; or a method's header and its number of code bytes
pub data Making : Type 0 where
  OfPointers : (size : ℕ) → Making
  OfWords : (size : ℕ) → Making
  OfBytes : (size : ℕ) → Making
  OfMethod : (header : ℤ) → (code : ℕ) → Making

-- its body; a method has as many nils as its header says, and code of zeros
abbrev pub body_made : Making → Body
body_made (OfPointers size) = Pointers (replicate size (Ref NIL))
body_made (OfWords size) = Words (replicate size 0)
body_made (OfBytes size) = Bytes (replicate size 0)
body_made (OfMethod header code) = Method header (replicate (literal_count header) (Ref NIL)) (replicate code 0)

-- the sizes of objects
abbrev pub CanMake : Making → Type 0
CanMake (OfPointers size) = size < MOST_FIELDS + 1
CanMake (OfWords size) = size < MOST_FIELDS + 1
CanMake (OfBytes size) = size < MOST_FIELDS + 1
CanMake (OfMethod header code) = IsSmallInteger header × (code ≤ MOST_CODE)

-- ---- sizes, and what an object holds

-- the words of a body in a core: one for each value, literal, header and word, and one for two bytes
abbrev pub body_words : Body → ℕ
body_words (Pointers values) = length values
body_words (Words words) = length words
body_words (Bytes bytes) = (length bytes + 1) / 2
body_words (Method header literals code) = 1 + length literals + (length code + 1) / 2

-- a word of the object is this name: its class word, or a field
abbrev pub holds : Object → ℕ → Bool
holds o n = (o.class == n) || list_any (is_ref n) (fields_of o.body)

-- how many words of the object are this name
abbrev pub holdings : Object → ℕ → ℕ
holdings o n = (if o.class == n then 1 else 0) + count_by (is_ref n) (fields_of o.body)
