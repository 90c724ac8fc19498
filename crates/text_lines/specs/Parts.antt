-- What a part of a line is read as: none where it is nothing of the kind.
use Rattle.std.specs.Prelude.{ℕ, ℤ, zero, suc, pos, negsuc, ◌%◌, ◌^◌, ◌&&◌, ◌||◌, ◌==◌, nat_lt, not, Bool, false, List, [], ◌∷◌, length, codes, bytes_eq, Option, Some, None, option_map, option_and_then, if◌then◌else◌}
use Rattle.std.specs.List.{list_all, slice_split}
use Rattle.std.specs.Char.{is_ascii_digit}
use Rattle.std.specs.Str.Parse.{digits_value}
use Rattle.long_names.specs.declared.limits.TheConstants.{SMALL_INTEGERS}
use Rattle.long_names.specs.declared.value.Value.{Value}
use Rattle.long_names.specs.declared.value.Value.TheVariants.{Int, Ref}
use Rattle.long_names.specs.declared.object.Kind.{Kind}
use Rattle.long_names.specs.declared.object.Kind.TheVariants as kind

-- ---- the parts of a line

abbrev pub is_space : ℕ → Bool
is_space b = b == 32

-- the parts that stand behind others: none, or behind a space one more than spaces come then. No public clause stands on it.
abbrev pub parts_behind : List ℕ → List (List ℕ)
parts_behind [] = []
parts_behind (b ∷ bs) = slice_split is_space bs

-- ---- one reading or another

infixr 10 ◌or◌
abbrev pub ◌or◌ : {X : Type 0} → Option X → Option X → Option X
None or other = other
(Some x) or other = Some x

-- what passes a test
abbrev pub that_is : {X : Type 0} → (X → Bool) → Option X → Option X
that_is test None = None
that_is test (Some x) = if test x then Some x else None

-- ---- numbers

-- plain decimal: digits, and the first of several isn't 0 (48)
abbrev pub is_plain : List ℕ → Bool
is_plain [] = false
is_plain (d ∷ ds) = list_all is_ascii_digit (d ∷ ds) && (not (d == 48) || length ds == 0)

-- a number of any size
abbrev pub number_of : List ℕ → Option ℕ
number_of part = if is_plain part then Some (digits_value 10 part) else None

-- a number of 32 bits
abbrev pub long_of : List ℕ → Option ℕ
long_of part = that_is (λ n. nat_lt n (2 ^ 32)) (number_of part)

-- a name: even, and not 0
abbrev pub name_of : List ℕ → Option ℕ
name_of part = that_is (λ n. n % 2 == 0 && nat_lt 0 n) (long_of part)

-- ---- SmallIntegers and values

-- what stands before an i (105) at the end
abbrev pub before_i : List ℕ → Option (List ℕ)
before_i [] = None
before_i (b ∷ []) = if b == 105 then Some [] else None
before_i (b ∷ c ∷ bs) = option_map (λ front. b ∷ front) (before_i (c ∷ bs))

abbrev pub negative_of : ℕ → Option ℤ
negative_of zero = None
negative_of (suc n) = Some (negsuc n)

-- a number, with a minus (45) before it where it is below 0
abbrev pub signed_of : List ℕ → Option ℤ
signed_of [] = None
signed_of (b ∷ bs) = if b == 45 then option_and_then negative_of (number_of bs) else option_map pos (number_of (b ∷ bs))

abbrev pub is_small : ℤ → Bool
is_small (pos n) = nat_lt n SMALL_INTEGERS
is_small (negsuc n) = nat_lt n SMALL_INTEGERS

abbrev pub small_of : List ℕ → Option ℤ
small_of part = that_is is_small (option_and_then signed_of (before_i part))

-- a SmallInteger, or a name
abbrev pub value_of : List ℕ → Option Value
value_of part = option_map Int (small_of part) or option_map Ref (name_of part)

-- ---- hexadecimal digits

-- 0 to 9, or a to f
abbrev pub is_hex : ℕ → Bool
is_hex b = (nat_lt 47 b && nat_lt b 58) || (nat_lt 96 b && nat_lt b 103)

-- so many digits
abbrev pub hex_of : ℕ → List ℕ → Option ℕ
hex_of digits part = if length part == digits && list_all is_hex part then Some (digits_value 16 part) else None

abbrev pub byte_of : List ℕ → Option ℕ
byte_of part = hex_of 2 part

abbrev pub word_of : List ℕ → Option ℕ
word_of part = hex_of 4 part

-- ---- words of the grammar

abbrev pub is_loom : List ℕ → Bool
is_loom part = bytes_eq part (codes "loom")

abbrev pub is_code : List ℕ → Bool
is_code part = bytes_eq part (codes "code")

abbrev pub kind_of : List ℕ → Option Kind
kind_of part = if bytes_eq part (codes "pointers") then Some kind.Pointers else (if bytes_eq part (codes "words") then Some kind.Words else (if bytes_eq part (codes "bytes") then Some kind.Bytes else (if bytes_eq part (codes "method") then Some kind.Method else None)))
