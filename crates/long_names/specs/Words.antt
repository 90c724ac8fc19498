-- SmallIntegers, values and long words (chapter 30 of the Blue Book, with 32 bits).
use Rattle.std.specs.Prelude.{ℕ, ℤ, pos, negsuc, ◌+◌, ◌-◌, ◌*◌, ◌/◌, ◌%◌, ◌^◌, ◌<◌, ◌==◌, nat_lt, nat_le, Option, Some, None, if◌then◌else◌}
use Rattle.long_names.specs.Names.{IsLongName}
use Rattle.long_names.specs.declared.limits.TheConstants.{SMALL_INTEGERS}
use Rattle.long_names.specs.declared.value.Value.{Value}
use Rattle.long_names.specs.declared.value.Value.TheVariants.{Int, Ref}

-- a SmallInteger is from -16384 to 16383
abbrev pub IsSmallInteger : ℤ → Type 0
IsSmallInteger (pos n) = n < SMALL_INTEGERS
IsSmallInteger (negsuc n) = n < SMALL_INTEGERS

-- what a field may hold: a SmallInteger, or a name that fits a long word
abbrev pub IsValue : Value → Type 0
IsValue (Int z) = IsSmallInteger z
IsValue (Ref n) = IsLongName n

-- the long word of a value: a SmallInteger is twice the number and 1, in two's complement
abbrev pub long_word : Value → ℕ
long_word (Int (pos n)) = 2 * n + 1
long_word (Int (negsuc n)) = 2 ^ 32 - 1 - 2 * n
long_word (Ref n) = n

-- the SmallInteger whose long word is twice this and 1
abbrev pub small_integer_of : ℕ → Option Value
small_integer_of half = if nat_lt half SMALL_INTEGERS then Some (Int (pos half)) else (if nat_le (2 ^ 31 - SMALL_INTEGERS) half then Some (Int (negsuc (2 ^ 31 - 1 - half))) else None)

-- the value of a long word: none for 0, and none for a SmallInteger out of range
abbrev pub value_of : ℕ → Option Value
value_of word = if word % 2 == 1 then small_integer_of (word / 2) else (if word == 0 then None else Some (Ref word))

-- a SmallInteger's 15 bits, read as a number without sign
abbrev pub unsigned_of : ℤ → ℕ
unsigned_of (pos n) = n % 32768
unsigned_of (negsuc n) = 32767 - n % 32768

-- the number of literals that a method header states: its lowest six bits
abbrev pub literal_count : ℤ → ℕ
literal_count header = unsigned_of header % 64
