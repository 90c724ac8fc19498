-- The arithmetic of SmallIntegers (chapter 29, arithmetic primitives), in whole numbers without bound. None: there is no result.
use Rattle.std.specs.Prelude.{zero, suc, ℕ, ℤ, pos, negsuc, ◌+ℤ◌, ◌-ℤ◌, ◌*ℤ◌, ◌^◌, Bool, true, false, List, [], ◌∷◌, Option, Some, None, if◌then◌else◌}
use Rattle.std.specs.Option.{option_and_then}
use Rattle.std.specs.Int.{int_div_euclid, int_bit_and, int_bit_or, int_bit_xor}
use Rattle.std.specs.Int.RustNames.{int_div, int_rem}
use Rattle.std.specs.Int.Signed.{lt_z}
use Rattle.std.specs.Ordering.{int_eq}
use mir.Syntax.{w16}
use Rattle.std.proofs.Math.IntN.{neg_ℤ}
use Rattle.long_names.specs.declared.value.Value.{Value}
use Rattle.long_names.specs.declared.value.Value.TheVariants.{Int}
use Rattle.long_names.specs.Names.{POINT}
use Rattle.long_names.specs.Objects.{OfPointers, int_of}
use Rattle.blue_model.specs.declared.answer.Answer.{Answer}
use Rattle.blue_model.specs.declared.indexes.TheConstants.{X_INDEX, Y_INDEX, POINT_SIZE}
use Rattle.blue_model.specs.declared.primitives.TheConstants.{PRIMITIVE_ADD, PRIMITIVE_SUBTRACT, PRIMITIVE_LESS_THAN, PRIMITIVE_GREATER_THAN, PRIMITIVE_LESS_OR_EQUAL, PRIMITIVE_GREATER_OR_EQUAL, PRIMITIVE_EQUAL, PRIMITIVE_NOT_EQUAL, PRIMITIVE_MULTIPLY, PRIMITIVE_DIVIDE, PRIMITIVE_MOD, PRIMITIVE_DIV, PRIMITIVE_QUO, PRIMITIVE_BIT_AND, PRIMITIVE_BIT_OR, PRIMITIVE_BIT_XOR, PRIMITIVE_BIT_SHIFT, PRIMITIVE_MAKE_POINT}
use Rattle.blue_model.specs.Machine.{Rule, ◌>>=◌, ◌>>◌, done, known, make}
use Rattle.blue_model.specs.Contexts.{stated, store_field, stack}
use Rattle.blue_model.specs.Trials.{where_some, answer, boolean, Primitive}

-- ---- results

abbrev pub sum : ℤ → ℤ → Option ℤ
sum a b = Some (a +ℤ b)

abbrev pub difference : ℤ → ℤ → Option ℤ
difference a b = Some (a -ℤ b)

abbrev pub product : ℤ → ℤ → Option ℤ
product a b = Some (a *ℤ b)

-- by a divisor other than 0
abbrev pub divided : (ℤ → ℤ → Option ℤ) → ℤ → ℤ → Option ℤ
divided f a (pos zero) = None
divided f a (pos (suc n)) = f a (pos (suc n))
divided f a (negsuc n) = f a (negsuc n)

-- /: where nothing is left
abbrev pub exact_quotient : ℤ → ℤ → Option ℤ
exact_quotient a b = if int_eq (int_rem a b) (pos 0) then Some (int_div a b) else None

-- //: rounded down. A negative divisor divides the negated number by what it negates
abbrev pub rounded_down : ℤ → ℤ → ℤ
rounded_down a (pos n) = int_div_euclid a (pos n)
rounded_down a (negsuc n) = int_div_euclid (neg_ℤ a) (pos (suc n))

abbrev pub quotient_down : ℤ → ℤ → Option ℤ
quotient_down a b = Some (rounded_down a b)

-- \\: what is left of that
abbrev pub remainder_down : ℤ → ℤ → Option ℤ
remainder_down a b = Some (a -ℤ (rounded_down a b *ℤ b))

-- quo: rounded toward 0
abbrev pub quotient_to_zero : ℤ → ℤ → Option ℤ
quotient_to_zero a b = Some (int_div a b)

-- in two's complement; SmallIntegers have 15 bits, and are no less in 16
abbrev pub bits_and : ℤ → ℤ → Option ℤ
bits_and a b = Some (int_bit_and w16 a b)

abbrev pub bits_or : ℤ → ℤ → Option ℤ
bits_or a b = Some (int_bit_or w16 a b)

abbrev pub bits_xor : ℤ → ℤ → Option ℤ
bits_xor a b = Some (int_bit_xor w16 a b)

-- bitShift: times 2 to the power of the argument, rounded down
abbrev pub shifted : ℤ → ℤ → Option ℤ
shifted a (pos n) = Some (a *ℤ pos (2 ^ n))
shifted a (negsuc n) = Some (int_div_euclid a (pos (2 ^ suc n)))

-- ---- comparisons

abbrev pub is_less : ℤ → ℤ → Bool
is_less a b = lt_z a b

abbrev pub is_greater : ℤ → ℤ → Bool
is_greater a b = lt_z b a

abbrev pub is_at_most : ℤ → ℤ → Bool
is_at_most a b = if lt_z b a then false else true

abbrev pub is_at_least : ℤ → ℤ → Bool
is_at_least a b = if lt_z a b then false else true

abbrev pub is_equal : ℤ → ℤ → Bool
is_equal a b = int_eq a b

abbrev pub is_unequal : ℤ → ℤ → Bool
is_unequal a b = if int_eq a b then false else true

-- ---- the primitives: receiver and argument are SmallIntegers

unfoldable pub of_numbers : (ℤ → ℤ → Rule Answer) → Rule Answer
of_numbers p = do
  receiver ← stack 1
  argument ← stack 0
  where_some (int_of receiver) (λ a. where_some (int_of argument) (λ b. p a b))

-- the result is a SmallInteger, too
unfoldable pub arithmetic : (ℤ → ℤ → Option ℤ) → Rule Answer
arithmetic f = of_numbers (λ a b. where_some (option_and_then stated (f a b)) (λ z. answer 1 (Int z)))

unfoldable pub comparison : (ℤ → ℤ → Bool) → Rule Answer
comparison f = of_numbers (λ a b. boolean (f a b) >>= answer 1)

unfoldable pub make_point : ℤ → ℤ → Rule Value
make_point x y = do
  points ← known POINT
  point ← make points (OfPointers POINT_SIZE)
  store_field point X_INDEX (Int x)
  store_field point Y_INDEX (Int y)
  done point

-- primitiveMakePoint
unfoldable pub point : Rule Answer
point = of_numbers (λ x y. make_point x y >>= answer 1)

abbrev pub of_one : ℕ → Rule Answer → Primitive
of_one index rule = record { index = index; arguments = 1; rule = rule }

unfoldable pub integer_primitives : List Primitive
integer_primitives =
    of_one PRIMITIVE_ADD (arithmetic sum)
    ∷ of_one PRIMITIVE_SUBTRACT (arithmetic difference)
    ∷ of_one PRIMITIVE_LESS_THAN (comparison is_less)
    ∷ of_one PRIMITIVE_GREATER_THAN (comparison is_greater)
    ∷ of_one PRIMITIVE_LESS_OR_EQUAL (comparison is_at_most)
    ∷ of_one PRIMITIVE_GREATER_OR_EQUAL (comparison is_at_least)
    ∷ of_one PRIMITIVE_EQUAL (comparison is_equal)
    ∷ of_one PRIMITIVE_NOT_EQUAL (comparison is_unequal)
    ∷ of_one PRIMITIVE_MULTIPLY (arithmetic product)
    ∷ of_one PRIMITIVE_DIVIDE (arithmetic (divided exact_quotient))
    ∷ of_one PRIMITIVE_MOD (arithmetic (divided remainder_down))
    ∷ of_one PRIMITIVE_DIV (arithmetic (divided quotient_down))
    ∷ of_one PRIMITIVE_QUO (arithmetic (divided quotient_to_zero))
    ∷ of_one PRIMITIVE_BIT_AND (arithmetic bits_and)
    ∷ of_one PRIMITIVE_BIT_OR (arithmetic bits_or)
    ∷ of_one PRIMITIVE_BIT_XOR (arithmetic bits_xor)
    ∷ of_one PRIMITIVE_BIT_SHIFT (arithmetic shifted)
    ∷ of_one PRIMITIVE_MAKE_POINT point
    ∷ []
