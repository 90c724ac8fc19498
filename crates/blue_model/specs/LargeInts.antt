-- Large integers (chapter 29, arithmetic primitives): whole numbers from -(2 to the 127) to 2 to the 127 less 1. A number that is no
-- SmallInteger is an object of bytes, the lowest first, whose class has its sign. The arithmetic is that of whole numbers without bound.
use Rattle.std.specs.Prelude.{zero, suc, ℕ, ℤ, pos, negsuc, ◌+◌, ◌*◌, ◌/◌, ◌%◌, ◌^◌, ◌==◌, nat_lt, nat_le, Bool, List, [], ◌∷◌, length, get_or, Option, Some, None, is_some, if◌then◌else◌}
use Rattle.std.specs.Option.{option_and_then}
use Rattle.std.specs.Int.{int_bit_and, int_bit_or, int_bit_xor}
use Rattle.std.specs.Int.RustNames.{unsigned_abs}
use mir.Syntax.{w128}
use Rattle.std.proofs.Math.IntN.{neg_ℤ}
use Rattle.long_names.specs.declared.value.Value.{Value}
use Rattle.long_names.specs.declared.value.Value.TheVariants.{Int, Ref}
use Rattle.long_names.specs.declared.object.Object.{Object}
use Rattle.long_names.specs.Names.{LARGE_POSITIVE_INTEGER, LARGE_NEGATIVE_INTEGER}
use Rattle.long_names.specs.Objects.{OfBytes, int_of, text_of}
use Rattle.long_names.specs.Heap.{Heap}
use Rattle.blue_model.specs.declared.answer.Answer.{Answer}
use Rattle.blue_model.specs.declared.limits.TheConstants.{LARGE_BYTES, LARGE_BITS}
use Rattle.blue_model.specs.declared.primitives.TheConstants.{PRIMITIVE_LARGE_ADD, PRIMITIVE_LARGE_SUBTRACT, PRIMITIVE_LARGE_LESS_THAN, PRIMITIVE_LARGE_GREATER_THAN, PRIMITIVE_LARGE_LESS_OR_EQUAL, PRIMITIVE_LARGE_GREATER_OR_EQUAL, PRIMITIVE_LARGE_EQUAL, PRIMITIVE_LARGE_NOT_EQUAL, PRIMITIVE_LARGE_MULTIPLY, PRIMITIVE_LARGE_DIVIDE, PRIMITIVE_LARGE_MOD, PRIMITIVE_LARGE_DIV, PRIMITIVE_LARGE_QUO, PRIMITIVE_LARGE_BIT_AND, PRIMITIVE_LARGE_BIT_OR, PRIMITIVE_LARGE_BIT_XOR, PRIMITIVE_LARGE_BIT_SHIFT}
use Rattle.blue_model.specs.Machine.{Rule, ◌>>=◌, ◌>>◌, done, pick, known, make, store_byte, each}
use Rattle.blue_model.specs.Contexts.{stated, stack}
use Rattle.blue_model.specs.Trials.{where_some, ◌>>?◌, peek, answer, boolean, Primitive}
use Rattle.blue_model.specs.Arithmetic.{sum, difference, product, divided, exact_quotient, remainder_down, quotient_down, quotient_to_zero, shifted, is_less, is_greater, is_at_most, is_at_least, is_equal, is_unequal, of_one}

-- ---- bytes

-- the number that bytes are, the lowest first
abbrev pub magnitude : List ℕ → ℕ
magnitude [] = 0
magnitude (b ∷ bs) = b + 256 * magnitude bs

-- the bytes of a number, the lowest first, none of them behind the last that isn't 0; and not more than so many
abbrev pub digits : ℕ → ℕ → List ℕ
digits zero n = []
digits (suc most) n = if n == 0 then [] else n % 256 ∷ digits most (n / 256)

abbrev pub fewest_bytes : ℕ → List ℕ
fewest_bytes n = digits LARGE_BYTES n

-- ---- values

-- the number, where it is one of those that large integers are
abbrev pub in_range : ℤ → Option ℤ
in_range (pos n) = if nat_lt n (2 ^ LARGE_BITS) then Some (pos n) else None
in_range (negsuc n) = if nat_lt n (2 ^ LARGE_BITS) then Some (negsuc n) else None

-- the magnitude of at most so many bytes; more are too many, also where they are 0
abbrev pub magnitude_of : List ℕ → Option ℕ
magnitude_of bytes = if nat_le (length bytes) LARGE_BYTES then Some (magnitude bytes) else None

-- with the sign of the class
abbrev pub signed : ℕ → ℕ → Option ℤ
signed class n = if class == LARGE_POSITIVE_INTEGER then Some (pos n) else (if class == LARGE_NEGATIVE_INTEGER then Some (neg_ℤ (pos n)) else None)

-- the value of a LargePositiveInteger or a LargeNegativeInteger
unfoldable pub large_value : Object → Option ℤ
large_value o = option_and_then (λ bytes. option_and_then (λ n. option_and_then in_range (signed o.class n)) (magnitude_of bytes)) (text_of o.body)

-- the value of what a value names, in a heap
abbrev pub number_at : Heap → Value → Option ℤ
number_at h (Int z) = Some z
number_at h (Ref n) = option_and_then large_value (h.at n)

-- ---- operands

abbrev pub operand_by : Option ℤ → Value → Rule (Option ℤ)
operand_by (Some z) v = done (Some z)
operand_by None v = peek large_value v

-- a SmallInteger, or a large integer
unfoldable pub large_operand : Value → Rule (Option ℤ)
large_operand v = operand_by (int_of v) v

-- ---- answers

abbrev pub class_of_sign : ℤ → ℕ
class_of_sign (pos n) = LARGE_POSITIVE_INTEGER
class_of_sign (negsuc n) = LARGE_NEGATIVE_INTEGER

-- the bytes are stored, the first one first
unfoldable pub put_bytes : Value → List ℕ → Rule (Unit {0})
put_bytes v bytes = each (λ i. store_byte v i (get_or bytes i 0)) (length bytes)

-- a new object of the fewest bytes
unfoldable pub make_large_integer : ℤ → Rule Value
make_large_integer z = do
  class ← known (class_of_sign z)
  large ← make class (OfBytes (length (fewest_bytes (unsigned_abs z))))
  put_bytes large (fewest_bytes (unsigned_abs z))
  done large

-- a SmallInteger where it is one
unfoldable pub large_answer : ℤ → Rule Value
large_answer z = pick (is_some (stated z)) (done (Int z)) (make_large_integer z)

-- ---- results: these, and those of SmallIntegers that have no bits

-- in two's complement: each value has 128 bits
abbrev pub large_and : ℤ → ℤ → Option ℤ
large_and a b = Some (int_bit_and w128 a b)

abbrev pub large_or : ℤ → ℤ → Option ℤ
large_or a b = Some (int_bit_or w128 a b)

abbrev pub large_xor : ℤ → ℤ → Option ℤ
large_xor a b = Some (int_bit_xor w128 a b)

-- the value that an operation gives, if it gives one
abbrev pub large_result : (ℤ → ℤ → Option ℤ) → ℤ → ℤ → Option ℤ
large_result f a b = option_and_then in_range (f a b)

-- ---- the primitives: receiver and argument are SmallIntegers or large integers

unfoldable pub of_large : (ℤ → ℤ → Rule Answer) → Rule Answer
of_large p = do
  receiver ← stack 1
  argument ← stack 0
  large_operand receiver >>? λ a. large_operand argument >>? λ b. p a b

-- bitShift:, whose argument is a SmallInteger
unfoldable pub of_shift : (ℤ → ℤ → Rule Answer) → Rule Answer
of_shift p = do
  receiver ← stack 1
  argument ← stack 0
  large_operand receiver >>? λ a. where_some (int_of argument) (λ b. p a b)

-- the result is a value, too
unfoldable pub answer_result : Option ℤ → Rule Answer
answer_result result = where_some result (λ z. large_answer z >>= answer 1)

unfoldable pub large_arithmetic : (ℤ → ℤ → Option ℤ) → Rule Answer
large_arithmetic f = of_large (λ a b. answer_result (large_result f a b))

unfoldable pub large_comparison : (ℤ → ℤ → Bool) → Rule Answer
large_comparison f = of_large (λ a b. boolean (f a b) >>= answer 1)

unfoldable pub large_shift : Rule Answer
large_shift = of_shift (λ a b. answer_result (large_result shifted a b))

unfoldable pub large_primitives : List Primitive
large_primitives =
    of_one PRIMITIVE_LARGE_ADD (large_arithmetic sum)
    ∷ of_one PRIMITIVE_LARGE_SUBTRACT (large_arithmetic difference)
    ∷ of_one PRIMITIVE_LARGE_LESS_THAN (large_comparison is_less)
    ∷ of_one PRIMITIVE_LARGE_GREATER_THAN (large_comparison is_greater)
    ∷ of_one PRIMITIVE_LARGE_LESS_OR_EQUAL (large_comparison is_at_most)
    ∷ of_one PRIMITIVE_LARGE_GREATER_OR_EQUAL (large_comparison is_at_least)
    ∷ of_one PRIMITIVE_LARGE_EQUAL (large_comparison is_equal)
    ∷ of_one PRIMITIVE_LARGE_NOT_EQUAL (large_comparison is_unequal)
    ∷ of_one PRIMITIVE_LARGE_MULTIPLY (large_arithmetic product)
    ∷ of_one PRIMITIVE_LARGE_DIVIDE (large_arithmetic (divided exact_quotient))
    ∷ of_one PRIMITIVE_LARGE_MOD (large_arithmetic (divided remainder_down))
    ∷ of_one PRIMITIVE_LARGE_DIV (large_arithmetic (divided quotient_down))
    ∷ of_one PRIMITIVE_LARGE_QUO (large_arithmetic (divided quotient_to_zero))
    ∷ of_one PRIMITIVE_LARGE_BIT_AND (large_arithmetic large_and)
    ∷ of_one PRIMITIVE_LARGE_BIT_OR (large_arithmetic large_or)
    ∷ of_one PRIMITIVE_LARGE_BIT_XOR (large_arithmetic large_xor)
    ∷ of_one PRIMITIVE_LARGE_BIT_SHIFT large_shift
    ∷ []
