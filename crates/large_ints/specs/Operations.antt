-- The operations of the primitives on large integers.
use Rattle.std.specs.Prelude.{zero, suc, ℕ, ℤ, pos, negsuc, Bool, true, false, Option, Some, None}
use Rattle.std.proofs.Math.IntN.{neg_ℤ}
use Rattle.blue_model.specs.declared.answer.Answer.{Answer}
use Rattle.blue_model.specs.Machine.{Rule}
use Rattle.blue_model.specs.Trials.{failed, with_arguments}
use Rattle.blue_model.specs.Arithmetic.{sum, difference, product, divided, exact_quotient, remainder_down, quotient_down, quotient_to_zero, is_less, is_greater, is_at_most, is_at_least, is_equal, is_unequal, of_one}
use Rattle.blue_model.specs.LargeInts.{large_and, large_or, large_xor, large_arithmetic, large_comparison, large_shift}
use Rattle.large_ints.specs.declared.operation.Arithmetic.{Arithmetic}
use Rattle.large_ints.specs.declared.operation.Arithmetic.TheVariants.{Sum, Difference, Product, ExactQuotient, RemainderDown, QuotientDown, QuotientToZero, And, Or, Xor}
use Rattle.large_ints.specs.declared.operation.Comparison.{Comparison}
use Rattle.large_ints.specs.declared.operation.Comparison.TheVariants.{Less, Greater, AtMost, AtLeast, Equal, Unequal}
use Rattle.large_ints.specs.declared.operation.Operation.{Operation}
use Rattle.large_ints.specs.declared.operation.Operation.TheVariants.{Number, Truth, Shift}

-- the number of a magnitude, negative or not
abbrev pub with_sign : Bool → ℕ → ℤ
with_sign false n = pos n
with_sign true n = neg_ℤ (pos n)

-- a number is below 0
abbrev pub is_below : ℤ → Bool
is_below (pos n) = false
is_below (negsuc n) = true

-- a quotient of these is below 0 before it is rounded
abbrev pub differ : ℤ → ℤ → Bool
differ (pos zero) b = false
differ (pos (suc n)) b = is_below b
differ (negsuc n) (pos k) = true
differ (negsuc n) (negsuc k) = false

abbrev pub result_of : Arithmetic → ℤ → ℤ → Option ℤ
result_of Sum = sum
result_of Difference = difference
result_of Product = product
result_of ExactQuotient = divided exact_quotient
result_of RemainderDown = divided remainder_down
result_of QuotientDown = divided quotient_down
result_of QuotientToZero = divided quotient_to_zero
result_of And = large_and
result_of Or = large_or
result_of Xor = large_xor

abbrev pub truth_of : Comparison → ℤ → ℤ → Bool
truth_of Less = is_less
truth_of Greater = is_greater
truth_of AtMost = is_at_most
truth_of AtLeast = is_at_least
truth_of Equal = is_equal
truth_of Unequal = is_unequal

abbrev pub rule_of : Operation → Rule Answer
rule_of (Number f) = large_arithmetic (result_of f)
rule_of (Truth f) = large_comparison (truth_of f)
rule_of Shift = large_shift

-- the rule of an index that has this operation, or none
abbrev pub rule_at : ℕ → Option Operation → Rule Answer
rule_at index None = failed
rule_at index (Some f) = with_arguments (of_one index (rule_of f))
