-- Reading a record from the left, field by field: what each field stands for, and where reading breaks off.
use Rattle.std.specs.Prelude.{ℕ, ℤ, zero, suc, ◌-◌, ◌%◌, ◌&&◌, Bool, true, List, [], ◌∷◌, length, take, drop, Option, Some, None, Result, Ok, Err, nat_lt, nat_le, ◌==◌, if◌then◌else◌}
use Rattle.std.specs.Int.{Width, w16, w32, w64, byte_len, from_be_bytes}
use Rattle.std.specs.List.{list_all}
use Rattle.long_names.specs.declared.limits.TheConstants.{MOST_CODE}
use Rattle.long_names.specs.Words.{value_of, literal_count}
use Rattle.long_names.specs.Record.{padding}
use Rattle.long_names.specs.declared.value.Value.{Value}
use Rattle.long_names.specs.declared.value.Value.TheVariants.{Int, Ref}
use Rattle.long_names.specs.declared.object.Kind.{Kind}
use Rattle.long_names.specs.declared.object.Kind.TheVariants as kind
use Rattle.long_names.specs.declared.object.Body.{Body}
use Rattle.long_names.specs.declared.object.Body.TheVariants.{Pointers, Words, Bytes, Method}
use Rattle.long_names.specs.declared.object.Rec.{Rec}
use Rattle.image_format.specs.declared.fault.Halt.{Halt}

-- ---- where reading breaks off

-- one reading, and then another of what it left
infixl 10 ◌>>=◌
abbrev pub ◌>>=◌ : {A B : Type 0} → Result A Halt → (A → Result B Halt) → Result B Halt
(Ok x) >>= f = f x
(Err h) >>= f = Err h

abbrev pub halt : ℕ → ℕ → Halt
halt rule left = record { rule = rule; left = left }

-- the field with which these bytes begin breaks a rule
abbrev pub broken : {A : Type 0} → ℕ → List ℕ → Result A Halt
broken rule bytes = Err (halt rule (length bytes))

-- rule 9: the bytes end before the field is whole
abbrev pub ended : {A : Type 0} → Result A Halt
ended = Err (halt 9 0)

-- what the field with which these bytes begin stands for, or the rule that it breaks
abbrev pub judged : {A : Type 0} → ℕ → List ℕ → Option A → Result A Halt
judged rule bytes (Some x) = Ok x
judged rule bytes None = broken rule bytes

-- ---- fields: each is what was read, and the bytes after it

unfoldable pub octets_at : ℕ → List ℕ → Result (List ℕ × List ℕ) Halt
octets_at n bytes = if nat_lt (length bytes) n then ended else Ok (take n bytes, drop n bytes)

unfoldable pub number_at : Width → List ℕ → Result (ℕ × List ℕ) Halt
number_at w bytes = do
  front ← octets_at (byte_len w) bytes
  Ok (from_be_bytes w front.0, front.1)

-- a name, which breaks this rule where it is odd or 0: rule 4 for a record's name, 6 for its class
unfoldable pub name_at : ℕ → List ℕ → Result (ℕ × List ℕ) Halt
name_at rule bytes = do
  word ← number_at w32 bytes
  if word.0 % 2 == 0 && nat_lt 0 word.0 then Ok word else broken rule bytes

abbrev pub kind_of_number : ℕ → Option Kind
kind_of_number n = if n == 0 then Some kind.Pointers else (if n == 1 then Some kind.Words else (if n == 2 then Some kind.Bytes else (if n == 3 then Some kind.Method else None)))

-- rule 5: a kind is 0 to 3
unfoldable pub kind_at : List ℕ → Result (Kind × List ℕ) Halt
kind_at bytes = do
  number ← number_at w16 bytes
  kind ← judged 5 bytes (kind_of_number number.0)
  Ok (kind, number.1)

abbrev pub is_size : Kind → ℕ → Bool
is_size kind.Pointers n = true
is_size kind.Words n = true
is_size kind.Bytes n = true
is_size kind.Method n = nat_le n MOST_CODE

-- rule 7: a method has at most so many bytes of code
unfoldable pub size_at : Kind → List ℕ → Result (ℕ × List ℕ) Halt
size_at kind bytes = do
  number ← number_at w16 bytes
  if is_size kind number.0 then Ok number else broken 7 bytes

-- rule 6: a field is a name, or a SmallInteger in range
unfoldable pub value_at : List ℕ → Result (Value × List ℕ) Halt
value_at bytes = do
  word ← number_at w32 bytes
  value ← judged 6 bytes (value_of word.0)
  Ok (value, word.1)

-- as many fields of one kind as stated, one after the other
unfoldable pub many_at : {X : Type 0} → (List ℕ → Result (X × List ℕ) Halt) → ℕ → List ℕ → Result (List X × List ℕ) Halt
many_at read zero bytes = Ok ([], bytes)
many_at read (suc n) bytes = do
  first ← read bytes
  others ← many_at read n first.1
  Ok (first.0 ∷ others.0, others.1)

abbrev pub values_at : ℕ → List ℕ → Result (List Value × List ℕ) Halt
values_at n bytes = many_at value_at n bytes

abbrev pub words_at : ℕ → List ℕ → Result (List ℕ × List ℕ) Halt
words_at n bytes = many_at (number_at w16) n bytes

abbrev pub header_of : ℕ → Value → Option ℤ
header_of count (Int z) = if literal_count z == count then Some z else None
header_of count (Ref n) = None

abbrev pub header_in : ℕ → Option Value → Option ℤ
header_in count (Some v) = header_of count v
header_in count None = None

-- rule 7: a header is a SmallInteger in range, which says how many literals there are
unfoldable pub header_at : ℕ → List ℕ → Result (ℤ × List ℕ) Halt
header_at count bytes = do
  word ← number_at w32 bytes
  header ← judged 7 bytes (header_in count (value_of word.0))
  Ok (header, word.1)

-- ---- a record

unfoldable pub method_at : ℕ → List ℕ → Result (Body × List ℕ) Halt
method_at size bytes = do
  count ← number_at w32 bytes
  header ← header_at count.0 count.1
  literals ← values_at count.0 header.1
  code ← octets_at size literals.1
  Ok (Method header.0 literals.0 code.0, code.1)

unfoldable pub body_at : Kind → ℕ → List ℕ → Result (Body × List ℕ) Halt
body_at kind.Pointers size bytes = do
  values ← values_at size bytes
  Ok (Pointers values.0, values.1)
body_at kind.Words size bytes = do
  words ← words_at size bytes
  Ok (Words words.0, words.1)
body_at kind.Bytes size bytes = do
  octets ← octets_at size bytes
  Ok (Bytes octets.0, octets.1)
body_at kind.Method size bytes = method_at size bytes

-- rule 8: the zeros at a record's end are zeros
unfoldable pub zeros_at : ℕ → List ℕ → Result (Unit {0} × List ℕ) Halt
zeros_at n bytes = do
  zeros ← octets_at n bytes
  if list_all (λ b. b == 0) zeros.0 then Ok (tt, zeros.1) else broken 8 bytes

unfoldable pub record_at : List ℕ → Result (Rec × List ℕ) Halt
record_at bytes = do
  name ← name_at 4 bytes
  class ← name_at 6 name.1
  count ← number_at w64 class.1
  kind ← kind_at count.1
  size ← size_at kind.0 kind.1
  body ← body_at kind.0 size.0 size.1
  rest ← zeros_at (padding (length bytes - length body.1)) body.1
  Ok (record { name = name.0; class = class.0; count = count.0; body = body.0 }, rest.1)
