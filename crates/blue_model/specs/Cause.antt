-- The causes by their numbers.
use Rattle.std.specs.Prelude.{ℕ}
use Rattle.blue_model.specs.declared.cause.Cause.{Cause}
use Rattle.blue_model.specs.declared.cause.Cause.TheVariants.{Pointer, Unused, Stack, Shape, NotUnderstood, NoProcess, Chain}

abbrev pub cause_number : Cause → ℕ
cause_number Pointer = 1
cause_number Unused = 2
cause_number Stack = 3
cause_number Shape = 4
cause_number NotUnderstood = 5
cause_number NoProcess = 6
cause_number Chain = 7
