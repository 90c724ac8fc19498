-- What rules take out of objects: fields, numbers, code.
use Rattle.std.specs.Prelude.{ℕ, ℤ, pos, negsuc, ◌+◌, ◌-◌, ◌*◌, ◌&&◌, Bool, nat_le, List, length, Option, Some, None, slice_get, if◌then◌else◌}
use Rattle.std.specs.Option.{option_and_then}
use Rattle.long_names.specs.declared.value.Value.{Value}
use Rattle.long_names.specs.declared.value.Value.TheVariants.{Int, Ref}
use Rattle.long_names.specs.declared.object.Object.{Object}
use Rattle.long_names.specs.Names.{NIL}
use Rattle.long_names.specs.Objects.{int_of, is_ref, header_of, pointers_of, literals_of, bytes_of}
use Rattle.blue_model.specs.declared.indexes.TheConstants.{METHOD_INDEX, HOME_INDEX, TEMP_FRAME_START}
use Rattle.blue_model.specs.declared.limits.TheConstants.{LAST_BYTE}

-- ---- values

abbrev pub is_nil : Value → Bool
is_nil v = is_ref NIL v

-- ---- objects of pointers

-- the values of an object of pointers that has at least so many
abbrev pub at_least : ℕ → List Value → Option (List Value)
at_least least values = if nat_le least (length values) then Some values else None

abbrev pub shaped : ℕ → Object → Option (List Value)
shaped least o = option_and_then (at_least least) (pointers_of o.body)

-- how many fields an object of pointers has that has at least so many
unfoldable pub size : ℕ → Object → Option ℕ
size least o = option_and_then (λ (values : List Value). Some (length values)) (shaped least o)

-- field i of an object of pointers with at least so many fields
unfoldable pub field : ℕ → ℕ → Object → Option Value
field least i o = option_and_then (λ (values : List Value). slice_get values i) (shaped least o)

-- the number that a field holds
unfoldable pub number : ℕ → ℕ → Object → Option ℤ
number least i o = option_and_then int_of (option_and_then (λ (values : List Value). slice_get values i) (shaped least o))

-- ---- contexts

abbrev pub home_by : Value → Option Value → Option Value → Option Value
home_by context None fifth = None
home_by context (Some (Int z)) fifth = fifth
home_by context (Some (Ref n)) fifth = Some context

abbrev pub home_in : Value → List Value → Option Value
home_in context values = home_by context (slice_get values METHOD_INDEX) (slice_get values HOME_INDEX)

-- the home of a context: of a block, whose field 3 is a number, field 5, and otherwise the context itself (chapter 27, contexts)
unfoldable pub home_of : Value → Object → Option Value
home_of context o = option_and_then (home_in context) (shaped TEMP_FRAME_START o)

-- ---- methods

-- a method's number of literals and its code
pub record Code : Type 0 where
  pub literals : ℕ
  pub bytes : List ℕ

abbrev pub code_by : Option (List ℕ) → List Value → Option Code
code_by None literals = None
code_by (Some bytes) literals = Some (record { literals = length literals; bytes = bytes })

unfoldable pub code_of : Object → Option Code
code_of o = option_and_then (code_by (bytes_of o.body)) (literals_of o.body)

-- the header of a method
unfoldable pub heading : Object → Option ℤ
heading o = header_of o.body

-- literal i of a method
unfoldable pub literal : ℕ → Object → Option Value
literal i o = option_and_then (λ (literals : List Value). slice_get literals i) (literals_of o.body)

-- the number of a method's first byte: its header and literals take two bytes each (chapter 27, compiled methods)
abbrev pub first_byte : Code → ℕ
first_byte code = 2 * (code.literals + 1)

-- the byte of this number, behind which the instruction pointer can still be stated by a context: no method has more bytes
abbrev pub byte_at : ℤ → Code → Option ℕ
byte_at (pos n) code = if nat_le (first_byte code) n && nat_le n LAST_BYTE then slice_get code.bytes (n - first_byte code) else None
byte_at (negsuc n) code = None
