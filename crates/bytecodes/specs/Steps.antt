-- Bytecodes after which the next always follows, how they end, and the activation of a method as an answer.
use Rattle.std.specs.Prelude.{ℕ, ◌&&◌, ◌||◌, nat_le, Bool, Result, Ok, Err}
use Rattle.blue_model.specs.declared.answer.Answer.{Answer}
use Rattle.blue_model.specs.declared.answer.Answer.TheVariants.{Done}
use Rattle.blue_model.specs.declared.step.Step.{Step}
use Rattle.blue_model.specs.declared.step.Step.TheVariants.{Next}
use Rattle.blue_model.specs.declared.primitives.TheConstants.{LAST_PUSH, FIRST_UNUSED, LAST_EXTENDED_STORE, POP_STACK, LAST_SHORT_JUMP, FIRST_LONG_JUMP, LAST_LONG_JUMP}
use Rattle.blue_model.specs.Machine.{Rule, ◌>>◌, done}
use Rattle.blue_model.specs.Messages.{activate}

-- a push, a store, a pop, an unconditional jump, or a byte that is unused
abbrev pub is_plain : ℕ → Bool
is_plain byte =
    nat_le byte LAST_PUSH
    || ((nat_le FIRST_UNUSED byte && nat_le byte LAST_EXTENDED_STORE)
    || ((nat_le POP_STACK byte && nat_le byte LAST_SHORT_JUMP) || (nat_le FIRST_LONG_JUMP byte && nat_le byte LAST_LONG_JUMP)))

abbrev pub next_by : {E : Type 0} → Result (Unit {0}) E → Result Step E
next_by (Ok u) = Ok Next
next_by (Err e) = Err e

abbrev pub activation : Rule Answer
activation = activate >> done Done
