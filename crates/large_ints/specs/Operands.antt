-- Receiver and argument: what their objects are, and how they are read and then used.
use Rattle.std.specs.Prelude.{ℕ, ℤ, nat_le, Bool, true, false, Option, Some, None, Result, Ok, Err, if◌then◌else◌}
use Rattle.std.specs.Option.{option_and_then}
use Rattle.long_names.specs.declared.value.Value.{Value}
use Rattle.long_names.specs.declared.value.Value.TheVariants.{Ref}
use Rattle.long_names.specs.declared.object.Kind.{Kind}
use Rattle.long_names.specs.declared.object.Kind.TheVariants as kind
use Rattle.long_names.specs.declared.object.Object.{Object}
use Rattle.long_names.specs.Names.{LARGE_POSITIVE_INTEGER, LARGE_NEGATIVE_INTEGER}
use Rattle.long_names.specs.Objects.{is_ref, text_of}
use Rattle.object_memory.specs.Told.{Told}
use Rattle.blue_model.specs.declared.answer.Answer.{Answer}
use Rattle.blue_model.specs.declared.answer.Answer.TheVariants.{Failed}
use Rattle.blue_model.specs.declared.cpu.Cpu.{Cpu}
use Rattle.blue_model.specs.declared.limits.TheConstants.{LARGE_BYTES}
use Rattle.blue_model.specs.Machine.{Rule}
use Rattle.blue_model.specs.LargeInts.{in_range, magnitude_of}
use Rattle.contexts.specs.declared.stop.Stop.{Stop}
use Rattle.contexts.specs.Serves.{Serves}
use Rattle.large_ints.specs.Operations.{with_sign}

-- ---- the parts of a large integer

-- of this class, negative or not
abbrev pub sign_by : Value → Option Bool
sign_by class = if is_ref LARGE_POSITIVE_INTEGER class then Some false else (if is_ref LARGE_NEGATIVE_INTEGER class then Some true else None)

unfoldable pub sign_in : Object → Option Bool
sign_in o = sign_by (Ref o.class)

unfoldable pub magnitude_in : Object → Option ℕ
magnitude_in o = option_and_then magnitude_of (text_of o.body)

-- the value of both
abbrev pub value_by : Option Bool → Option ℕ → Option ℤ
value_by sign None = None
value_by None (Some n) = None
value_by (Some negative) (Some n) = in_range (with_sign negative n)

-- how many bytes, where an object of this kind and length has not more than a large integer
abbrev pub few_bytes : Option (Kind × ℕ) → Option ℕ
few_bytes (Some (kind.Pointers, n)) = None
few_bytes (Some (kind.Words, n)) = None
few_bytes (Some (kind.Bytes, n)) = if nat_le n LARGE_BYTES then Some n else None
few_bytes (Some (kind.Method, n)) = None
few_bytes None = None

-- ---- both operands

-- What was done from old to new begins a rule that goes on with two numbers: where they were found, whatever serves from here on what
-- comes next serves the rule; where not, the primitive has failed; and a stop is the rule's, whatever comes next.
abbrev pub FindsTwo : Told → Cpu → Told → ((ℤ → ℤ → Rule Answer) → Rule Answer) → Result (Option (ℤ × ℤ)) Stop → Type 0
FindsTwo old cpu new rule (Ok (Some ab)) = (rest : ℤ → ℤ → Rule Answer) (later : Told) (now : Cpu) (answer : Result Answer Stop) → Serves new cpu later now (rest ab.0 ab.1) answer → Serves old cpu later now (rule rest) answer
FindsTwo old cpu new rule (Ok None) = (rest : ℤ → ℤ → Rule Answer) → Serves old cpu new cpu (rule rest) (Ok Failed)
FindsTwo old cpu new rule (Err e) = (rest : ℤ → ℤ → Rule Answer) → Serves old cpu new cpu (rule rest) (Err e)
