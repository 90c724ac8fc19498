-- Calls that begin a rule.
use Rattle.std.specs.Prelude.{Option, Some, None, Result, Ok, Err}
use Rattle.object_memory.specs.Told.{Told}
use Rattle.blue_model.specs.declared.answer.Answer.{Answer}
use Rattle.blue_model.specs.declared.answer.Answer.TheVariants.{Failed}
use Rattle.blue_model.specs.declared.cpu.Cpu.{Cpu}
use Rattle.blue_model.specs.Machine.{Rule}
use Rattle.contexts.specs.declared.stop.Stop.{Stop}
use Rattle.contexts.specs.Serves.{Serves}

-- What was done from old to new begins a rule that is given its rest: where it found something, whatever serves from here on what comes
-- next serves the rule; where it found nothing, the primitive has failed; and a stop is the rule's, whatever the rest.
abbrev pub Leads : {A P : Type 0} → Told → Cpu → Told → (P → Rule Answer) → (A → P → Rule Answer) → Result (Option A) Stop → Type 0
Leads {A} {P} old cpu new rule next (Ok (Some a)) = (rest : P) (later : Told) (now : Cpu) (answer : Result Answer Stop) → Serves new cpu later now (next a rest) answer → Serves old cpu later now (rule rest) answer
Leads {A} {P} old cpu new rule next (Ok None) = (rest : P) → Serves old cpu new cpu (rule rest) (Ok Failed)
Leads {A} {P} old cpu new rule next (Err e) = (rest : P) → Serves old cpu new cpu (rule rest) (Err e)

-- a call that may stop, and finds nothing but that it went through
abbrev pub with_done : Result (Unit {0}) Stop → Result (Option (Unit {0})) Stop
with_done (Ok u) = Ok (Some u)
with_done (Err e) = Err e
