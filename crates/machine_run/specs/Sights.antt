-- What a trace tells of a bytecode: where the machine stands when it comes to it.
use Rattle.std.specs.Prelude.{◌≡◌, ℕ, unsigned_abs, List, Result, Ok, Err, if◌then◌else◌}
use Rattle.long_names.specs.declared.value.Value.{Value}
use Rattle.long_names.specs.declared.value.Value.TheVariants.{Int, Ref}
use Rattle.long_names.specs.Names.{NIL}
use Rattle.long_names.specs.State.{ACTIVE_CONTEXT}
use Rattle.blue_model.specs.declared.event.Line.{Line}
use Rattle.blue_model.specs.declared.step.Step.{Step}
use Rattle.blue_model.specs.Machine.{Outcome, Go, Halt, Spent, Rule, ◌>>=◌, ◌>>◌, done, register, numbers}
use Rattle.blue_model.specs.Contexts.{fetch}
use Rattle.blue_model.specs.Devices.{due}
use Rattle.blue_model.specs.Processes.{check_switch}
use Rattle.contexts.specs.declared.stop.Stop.{Stop}
use Rattle.machine_run.specs.States.{is_long_name}
use Rattle.machine_run.specs.declared.tracing.Sight.{Sight}
use Rattle.machine_run.specs.declared.tracing.Traced.{Traced}

-- the name of the active context, which a machine that runs has (`a_sight_names_the_active_context`); nil where its register holds none
abbrev pub context_in : Value → ℕ
context_in (Int z) = NIL
context_in (Ref n) = if is_long_name n then n else NIL

-- the active context, the instruction pointer, and the byte there, which is fetched
unfoldable pub sight : Rule Sight
sight = do
  cpu ← numbers
  active ← register ACTIVE_CONTEXT
  byte ← fetch
  done (record { context = context_in active; ip = unsigned_abs cpu.ip; byte = byte })

-- in a cycle, after the lines that are due, the timer and a process switch that waits
unfoldable pub sight_in : List Line → Rule Sight
sight_in events = do
  due events
  check_switch
  sight

-- the machine stood so
abbrev pub IsSeen : Sight → Outcome Sight → Type 0
IsSeen seen (Go s m log) = s ≡ seen
IsSeen seen (Halt c log) = ⊥
IsSeen seen (Spent log) = ⊥

-- how a bytecode ended that was seen
abbrev pub end_of : Result Traced Stop → Result Step Stop
end_of (Ok traced) = Ok traced.end
end_of (Err stop) = Err stop
