-- The operations of the primitives on numbers.
use Rattle.std.specs.Prelude.{ℕ, ℤ, Bool, Option, Some, None}
use Rattle.blue_model.specs.declared.answer.Answer.{Answer}
use Rattle.blue_model.specs.Machine.{Rule, ◌>>=◌, done}
use Rattle.blue_model.specs.Contexts.{stack}
use Rattle.blue_model.specs.Trials.{failed, with_arguments}
use Rattle.blue_model.specs.Arithmetic.{sum, difference, product, divided, exact_quotient, remainder_down, quotient_down, quotient_to_zero, bits_and, bits_or, bits_xor, shifted, is_less, is_greater, is_at_most, is_at_least, is_equal, is_unequal, arithmetic, comparison, point, of_one}
use Rattle.long_names.specs.Objects.{int_of}
use Rattle.long_names.specs.Words.{IsSmallInteger}
use Rattle.prims_integer.specs.declared.operation.Arithmetic.{Arithmetic}
use Rattle.prims_integer.specs.declared.operation.Arithmetic.TheVariants.{Sum, Difference, Product, ExactQuotient, RemainderDown, QuotientDown, QuotientToZero, And, Or, Xor, Shift}
use Rattle.prims_integer.specs.declared.operation.Comparison.{Comparison}
use Rattle.prims_integer.specs.declared.operation.Comparison.TheVariants.{Less, Greater, AtMost, AtLeast, Equal, Unequal}
use Rattle.prims_integer.specs.declared.operation.Operation.{Operation}
use Rattle.prims_integer.specs.declared.operation.Operation.TheVariants.{Number, Truth, Point}

abbrev pub result_of : Arithmetic → ℤ → ℤ → Option ℤ
result_of Sum = sum
result_of Difference = difference
result_of Product = product
result_of ExactQuotient = divided exact_quotient
result_of RemainderDown = divided remainder_down
result_of QuotientDown = divided quotient_down
result_of QuotientToZero = divided quotient_to_zero
result_of And = bits_and
result_of Or = bits_or
result_of Xor = bits_xor
result_of Shift = shifted

abbrev pub truth_of : Comparison → ℤ → ℤ → Bool
truth_of Less = is_less
truth_of Greater = is_greater
truth_of AtMost = is_at_most
truth_of AtLeast = is_at_least
truth_of Equal = is_equal
truth_of Unequal = is_unequal

abbrev pub rule_of : Operation → Rule Answer
rule_of (Number f) = arithmetic (result_of f)
rule_of (Truth f) = comparison (truth_of f)
rule_of Point = point

-- the rule of an index that has this operation, or none
abbrev pub rule_at : ℕ → Option Operation → Rule Answer
rule_at index None = failed
rule_at index (Some f) = with_arguments (of_one index (rule_of f))

-- ---- receiver and argument

abbrev pub both : Option ℤ → Option ℤ → Option (ℤ × ℤ)
both None b = None
both (Some a) None = None
both (Some a) (Some b) = Some (a, b)

-- receiver and argument, where they are SmallIntegers
unfoldable pub two_numbers : Rule (Option (ℤ × ℤ))
two_numbers = do
  receiver ← stack 1
  argument ← stack 0
  done (both (int_of receiver) (int_of argument))

abbrev pub AreSmall : ℤ × ℤ → Type 0
AreSmall ab = IsSmallInteger ab.0 × IsSmallInteger ab.1
