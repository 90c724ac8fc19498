-- Array, stream and storage primitives (chapter 29).
use Rattle.std.specs.Prelude.{ℕ, ℤ, pos, ◌+◌, ◌-◌, ◌/◌, ◌%◌, ◌==◌, ◌||◌, ◌&&◌, Bool, true, false, nat_lt, nat_le, List, [], ◌∷◌, Option, Some, None, is_some, if◌then◌else◌}
use Rattle.std.specs.Option.{option_and_then}
use Rattle.std.specs.Int.Signed.{lt_z}
use Rattle.std.specs.Ordering.{int_eq}
use Rattle.long_names.specs.declared.value.Value.{Value}
use Rattle.long_names.specs.declared.value.Value.TheVariants.{Int, Ref}
use Rattle.long_names.specs.declared.object.Object.{Object}
use Rattle.long_names.specs.Names.{STRING, ARRAY, COMPILED_METHOD}
use Rattle.long_names.specs.Objects.{Making, OfPointers, OfWords, OfBytes, OfMethod, name_of, int_of, is_ref, pointers_of, text_of}
use Rattle.long_names.specs.State.{ACTIVE_CONTEXT, HOME, METHOD}
use Rattle.long_names.specs.declared.limits.TheConstants.{MOST_CODE, MOST_FIELDS, SMALL_INTEGERS}
use Rattle.blue_model.specs.declared.answer.Answer.{Answer}
use Rattle.blue_model.specs.declared.answer.Answer.TheVariants.{Done}
use Rattle.blue_model.specs.declared.spot.Spot.{Spot}
use Rattle.blue_model.specs.declared.indexes.TheConstants.{STREAM_ARRAY_INDEX, STREAM_INDEX_INDEX, STREAM_READ_LIMIT_INDEX, STREAM_WRITE_LIMIT_INDEX, STREAM_SIZE}
use Rattle.blue_model.specs.declared.primitives.TheConstants.{PRIMITIVE_AT, PRIMITIVE_AT_PUT, PRIMITIVE_SIZE, PRIMITIVE_STRING_AT, PRIMITIVE_STRING_AT_PUT, PRIMITIVE_NEXT, PRIMITIVE_NEXT_PUT, PRIMITIVE_AT_END, PRIMITIVE_OBJECT_AT, PRIMITIVE_OBJECT_AT_PUT, PRIMITIVE_NEW, PRIMITIVE_NEW_WITH_ARGUMENT, PRIMITIVE_BECOME, PRIMITIVE_INSTANCE_VARIABLE_AT, PRIMITIVE_INSTANCE_VARIABLE_AT_PUT, PRIMITIVE_AS_OOP, PRIMITIVE_NEW_METHOD, PRIMITIVE_EQUIVALENT, PRIMITIVE_CLASS}
use Rattle.blue_model.specs.Machine.{Rule, ◌>>=◌, ◌>>◌, done, pick, register, class_of, store, swap, make}
use Rattle.blue_model.specs.Parts.{size, field, number, literal, heading}
use Rattle.blue_model.specs.Contexts.{store_field, stack, pop}
use Rattle.blue_model.specs.Trials.{where_some, where_true, ◌>>?◌, peek, answer, boolean, Primitive}
use Rattle.blue_model.specs.Elements.{natural, index_argument, number_object, has_pointers, has_words, is_indexable, fixed_fields, specification_of, fixed_of, length_of, element_of, variable_of, element_at, put_element, text_at, character_of, byte_of_character}

-- ---- arrays

-- primitiveAt
unfoldable pub at : Rule Answer
at = do
  receiver ← stack 1
  argument ← stack 0
  index_argument argument >>? λ i. element_of receiver i >>? λ spot. element_at receiver spot >>= answer 1

-- primitiveAtPut
unfoldable pub at_put : Rule Answer
at_put = do
  receiver ← stack 2
  argument ← stack 1
  v ← stack 0
  index_argument argument >>? λ i. element_of receiver i >>? λ spot. put_element receiver spot v (answer 2 v)

-- how many elements are behind the fixed fields
unfoldable pub size_behind : ℕ → Object → Option ℕ
size_behind fixed o = option_and_then (λ n. if nat_le fixed n then Some (n - fixed) else None) (length_of o)

-- primitiveSize
unfoldable pub size_of : Rule Answer
size_of = do
  receiver ← stack 0
  fixed_of receiver >>? λ fixed. peek (size_behind fixed) receiver >>? λ n. number_object n >>= answer 0

-- primitiveStringAt
unfoldable pub string_at : Rule Answer
string_at = do
  receiver ← stack 1
  argument ← stack 0
  index_argument argument >>? λ i. element_of receiver i >>? λ spot. peek (text_at spot) receiver >>? λ byte. character_of byte >>? answer 1

-- primitiveStringAtPut
unfoldable pub string_at_put : Rule Answer
string_at_put = do
  receiver ← stack 2
  argument ← stack 1
  v ← stack 0
  index_argument argument >>? λ i. element_of receiver i >>? λ spot. peek (text_at spot) receiver >>? λ old. byte_of_character v >>? λ byte. put_element receiver spot (Int (pos byte)) (answer 2 v)

-- ---- streams

-- the object is an array of values, whose elements are answered, or of bytes, whose elements are characters
abbrev pub is_text : Object → Option Bool
is_text o = option_and_then (λ (bytes : List ℕ). Some true) (text_of o.body)

abbrev pub is_array : Object → Option Bool
is_array o = option_and_then (λ (values : List Value). Some false) (pointers_of o.body)

unfoldable pub streamed_by : Value → Value → Rule (Option Bool)
streamed_by class array = pick (is_ref ARRAY class) (peek is_array array) (pick (is_ref STRING class) (peek is_text array) (done None))

-- an Array of values, or a String of bytes
unfoldable pub streamed : Value → Rule (Option Bool)
streamed array = class_of array >>= λ class. streamed_by class array

-- what a stream reads or writes, whether that is text, its index and one of its limits
unfoldable pub of_stream : ℕ → Value → (Value → Bool → ℕ → ℤ → Rule Answer) → Rule Answer
of_stream limit stream p =
    peek (field STREAM_SIZE STREAM_ARRAY_INDEX) stream >>? λ array.
    streamed array >>? λ text.
    peek (number STREAM_SIZE STREAM_INDEX_INDEX) stream >>? λ z.
    peek (number STREAM_SIZE limit) stream >>? λ bound.
    where_some (natural z) (λ index. p array text index bound)

-- the element behind the index, where the limit allows it and the index can grow
unfoldable pub next_spot : Value → ℕ → ℤ → (Spot → Rule Answer) → Rule Answer
next_spot array index bound p = where_true (lt_z (pos index) bound) (element_of array (pos (index + 1)) >>? λ spot. where_true (nat_lt (index + 1) SMALL_INTEGERS) (p spot))

unfoldable pub advance : Value → ℕ → Rule (Unit {0})
advance stream index = store_field stream STREAM_INDEX_INDEX (Int (pos (index + 1)))

-- an element of an array of values, or the character of a byte
unfoldable pub streamed_element : Value → Bool → Spot → (Value → Rule Answer) → Rule Answer
streamed_element array text spot p = pick text (peek (text_at spot) array >>? λ byte. character_of byte >>? p) (element_at array spot >>= p)

-- primitiveNext
unfoldable pub next : Rule Answer
next = do
  stream ← stack 0
  of_stream STREAM_READ_LIMIT_INDEX stream (λ array text index bound. next_spot array index bound (λ spot. streamed_element array text spot (λ v. advance stream index >> answer 0 v)))

unfoldable pub put_streamed : Value → Bool → Spot → Value → Rule Answer → Rule Answer
put_streamed array text spot v rest = pick text (byte_of_character v >>? λ byte. put_element array spot (Int (pos byte)) rest) (put_element array spot v rest)

-- primitiveNextPut
unfoldable pub next_put : Rule Answer
next_put = do
  stream ← stack 1
  v ← stack 0
  of_stream STREAM_WRITE_LIMIT_INDEX stream (λ array text index bound. next_spot array index bound (λ spot. put_streamed array text spot v (advance stream index >> answer 1 v)))

-- primitiveAtEnd
unfoldable pub at_end : Rule Answer
at_end = do
  stream ← stack 0
  of_stream STREAM_READ_LIMIT_INDEX stream (λ array text index bound. peek length_of array >>? λ n. boolean ((if lt_z (pos index) bound then false else true) || nat_le n index) >>= answer 0)

-- ---- methods as objects: 1 is the header, and from 2 on are the literals

abbrev pub method_object : Value → ℤ → ℕ → Rule Answer
method_object method header n = pick (n == 1) (answer 1 (Int header)) (where_true (nat_le 2 n) (peek (literal (n - 2)) method >>? answer 1))

-- primitiveObjectAt
unfoldable pub object_at_index : Rule Answer
object_at_index = do
  method ← stack 1
  argument ← stack 0
  peek heading method >>? λ header. index_argument argument >>? λ z. where_some (natural z) (method_object method header)

-- primitiveObjectAtPut
unfoldable pub object_at_put : Rule Answer
object_at_put = do
  method ← stack 2
  argument ← stack 1
  v ← stack 0
  peek heading method >>? λ header. index_argument argument >>? λ z. where_some (natural z) (λ n. where_true (nat_le 2 n) (peek (literal (n - 2)) method >>? λ old. store method (n - 2) v >> answer 2 v))

-- ---- new objects

-- classes but that of methods have instances by new and new:
abbrev pub is_made_by_new : Value → ℤ → Bool → Bool
is_made_by_new class specification indexable = if is_ref COMPILED_METHOD class then false else (if is_indexable specification then indexable else (if indexable then false else true))

abbrev pub fields_making : ℤ → Making
fields_making specification = if has_pointers specification then OfPointers (fixed_fields specification) else OfWords (fixed_fields specification)

-- primitiveNew
unfoldable pub new : Rule Answer
new = do
  class ← stack 0
  specification_of class >>? λ specification. where_true (is_made_by_new class specification false) (make class (fields_making specification) >>= answer 0)

abbrev pub sized_making : ℤ → ℕ → Making
sized_making specification n = if has_pointers specification then OfPointers n else (if has_words specification then OfWords n else OfBytes n)

-- primitiveNewWithArg
unfoldable pub new_with_size : Rule Answer
new_with_size = do
  class ← stack 1
  argument ← stack 0
  specification_of class >>? λ specification. where_true (is_made_by_new class specification true) (index_argument argument >>? λ z. where_some (natural z) (λ n. where_true (nat_lt (n + fixed_fields specification) (MOST_FIELDS + 1)) (make class (sized_making specification (n + fixed_fields specification)) >>= answer 1)))

abbrev pub code_size : ℤ → Option ℕ
code_size z = option_and_then (λ n. if nat_le n MOST_CODE then Some n else None) (natural z)

-- primitiveNewMethod
unfoldable pub new_method : Rule Answer
new_method = do
  class ← stack 2
  code ← stack 1
  header ← stack 0
  where_some (option_and_then code_size (int_of code)) (λ n. where_some (int_of header) (λ h. where_some (name_of class) (λ name. make class (OfMethod h n) >>= answer 2)))

-- ---- variables of any instance, with no regard to its fixed fields

-- primitiveInstVarAt
unfoldable pub instance_variable_at : Rule Answer
instance_variable_at = do
  receiver ← stack 1
  argument ← stack 0
  peek (size 0) receiver >>? λ n. index_argument argument >>? λ i. variable_of receiver i >>? λ spot. element_at receiver spot >>= answer 1

-- primitiveInstVarAtPut
unfoldable pub instance_variable_at_put : Rule Answer
instance_variable_at_put = do
  receiver ← stack 2
  argument ← stack 1
  v ← stack 0
  peek (size 0) receiver >>? λ n. index_argument argument >>? λ i. variable_of receiver i >>? λ spot. put_element receiver spot v (answer 2 v)

-- ---- names

-- primitiveAsOop: the index of the name
unfoldable pub hash : Rule Answer
hash = do
  receiver ← stack 0
  where_some (name_of receiver) (λ name. answer 0 (Int (pos (name / 2 % SMALL_INTEGERS))))

abbrev pub is_same : Value → Value → Bool
is_same (Int a) (Int b) = int_eq a b
is_same (Int a) (Ref n) = false
is_same (Ref n) (Int b) = false
is_same (Ref n) (Ref k) = n == k

-- primitiveEquivalent
unfoldable pub equivalent : Rule Answer
equivalent = do
  receiver ← stack 1
  argument ← stack 0
  boolean (is_same receiver argument) >>= answer 1

-- the value is a name, and none of these
abbrev pub is_another : Value → Value → Value → Value → Bool
is_another context home method v = if is_same v context || (is_same v home || is_same v method) then false else is_some (name_of v)

-- primitiveBecome: receiver and argument change places. Neither is the active context, its home or its method
unfoldable pub become : Rule Answer
become = do
  receiver ← stack 1
  argument ← stack 0
  context ← register ACTIVE_CONTEXT
  home ← register HOME
  method ← register METHOD
  where_true (is_another context home method receiver && is_another context home method argument) (do
    swap receiver argument
    pop 1
    done Done)

-- primitiveClass
unfoldable pub class : Rule Answer
class = do
  receiver ← stack 0
  class_of receiver >>= answer 0

-- ---- the table

abbrev pub row : ℕ → ℕ → Rule Answer → Primitive
row index arguments rule = record { index = index; arguments = arguments; rule = rule }

unfoldable pub object_primitives : List Primitive
object_primitives =
    row PRIMITIVE_AT 1 at
    ∷ row PRIMITIVE_AT_PUT 2 at_put
    ∷ row PRIMITIVE_SIZE 0 size_of
    ∷ row PRIMITIVE_STRING_AT 1 string_at
    ∷ row PRIMITIVE_STRING_AT_PUT 2 string_at_put
    ∷ row PRIMITIVE_NEXT 0 next
    ∷ row PRIMITIVE_NEXT_PUT 1 next_put
    ∷ row PRIMITIVE_AT_END 0 at_end
    ∷ row PRIMITIVE_OBJECT_AT 1 object_at_index
    ∷ row PRIMITIVE_OBJECT_AT_PUT 2 object_at_put
    ∷ row PRIMITIVE_NEW 0 new
    ∷ row PRIMITIVE_NEW_WITH_ARGUMENT 1 new_with_size
    ∷ row PRIMITIVE_BECOME 1 become
    ∷ row PRIMITIVE_INSTANCE_VARIABLE_AT 1 instance_variable_at
    ∷ row PRIMITIVE_INSTANCE_VARIABLE_AT_PUT 2 instance_variable_at_put
    ∷ row PRIMITIVE_AS_OOP 0 hash
    ∷ row PRIMITIVE_NEW_METHOD 2 new_method
    ∷ row PRIMITIVE_EQUIVALENT 1 equivalent
    ∷ row PRIMITIVE_CLASS 0 class
    ∷ []
