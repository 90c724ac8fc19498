-- A machine over a thinner heap goes the same way.
use Rattle.std.specs.Prelude.{◌≡◌, ℕ, ◌<◌, true, List, Some}
use Rattle.long_names.specs.declared.value.Value.{Value}
use Rattle.long_names.specs.declared.value.Value.TheVariants.{Ref}
use Rattle.long_names.specs.declared.object.Object.{Object}
use Rattle.long_names.specs.Names.{is_known}
use Rattle.long_names.specs.declared.limits.TheConstants.{SLOTS}
use Rattle.long_names.specs.Objects.{Making, field_of}
use Rattle.long_names.specs.Heap.{Heap, IsBounded, Has}
use Rattle.long_names.specs.Thin.{IsWhole, IsThinning}
use Rattle.blue_model.specs.declared.event.Line.{Line}
use Rattle.blue_model.specs.declared.step.Step.TheVariants.{Next, Quit, Keep}
use Rattle.blue_model.specs.Machine.{Machine, LogRow, Outcome, Go, Halt, Spent, Rule, is_there, make}
use Rattle.blue_model.specs.State.{State, name_in}
use Rattle.blue_model.specs.Cycle.{Run, Ran, Stopped, run, Ending, Parked, Stuck}

-- ---- one rule

-- each known name, and each that a word, a register or a slot of the machine holds, has its object
abbrev pub IsWholeMachine : Machine → Type 0
IsWholeMachine m = IsWhole m.heap m.regs m.slots

-- s is m over a thinning of its heap, which is whole with its registers and slots
pub record IsThinned (m s : Machine) : Type 0 where
  pub thinning : IsThinning m.heap s.heap s.regs s.slots
  pub bounded : IsBounded m.heap
  pub regs : s.regs ≡ m.regs
  pub slots : s.slots ≡ m.slots
  pub transcript : s.transcript ≡ m.transcript
  pub cpu : s.cpu ≡ m.cpu
  pub largest : s.largest ≡ m.largest

-- Slots 0 to 2 pin the active context, its home and its method: registers 0 to 2 hold names, and slot i has that of register i.
pub record HasPins (m : Machine) : Type 0 where
  pub pins : (i : ℕ) → i < SLOTS → (n : ℕ) × (m.regs i ≡ Ref n) × (m.slots i ≡ Some n)

-- Two outcomes are the same but for a thinning: equal answers, causes and logs.
abbrev pub Agree : {A : Type 0} → Outcome A → Outcome A → Type 0
Agree (Go a m log) (Go b s rows) = (a ≡ b) × (log ≡ rows) × IsThinned m s
Agree (Halt c log) (Halt d rows) = (c ≡ d) × (log ≡ rows)
Agree (Spent log) (Spent rows) = log ≡ rows
Agree _ _ = ⊥

-- The law of a rule. Where both machines are one it says that the rule leaves a whole heap whole.
pub record RespectsThinning {A : Type 0} (p : Rule A) : Type 0 where
  pub agree : (m s : Machine) → IsThinned m s → Agree (p m) (p s)

-- ---- runs

-- two runs are the same but for a thinning
abbrev pub RunsAgree : Run → Run → Type 0
RunsAgree (Ran end m) (Ran last s) = (end ≡ last) × IsThinned m s
RunsAgree (Stopped m why log) (Stopped s reason rows) = (why ≡ reason) × (log ≡ rows) × IsThinned m s
RunsAgree _ _ = ⊥

-- k cycles more, where it hasn't ended or stopped
abbrev pub go_on : List Line → ℕ → Run → Run
go_on events k (Ran Next m) = run events k m
go_on events k (Ran Quit m) = Ran Quit m
go_on events k (Ran Keep m) = Ran Keep m
go_on events k (Stopped m why log) = Stopped m why log

-- each name of the state has its object in the heap
pub record HasState (state : State) (h : Heap) : Type 0 where
  pub display : (n : ℕ) → name_in state.display ≡ Some n → Has h n
  pub input : (n : ℕ) → name_in state.input ≡ Some n → Has h n
  pub timer : (n : ℕ) → name_in state.timer ≡ Some n → Has h n

-- and two whole runs
abbrev pub EndingsAgree : Ending → Ending → Type 0
EndingsAgree (Parked end m picture) (Parked last s drawn) = (end ≡ last) × (picture ≡ drawn) × IsThinned m s
EndingsAgree (Stuck why ran said) (Stuck reason counted spoken) = (why ≡ reason) × (ran ≡ counted) × (said ≡ spoken)
EndingsAgree _ _ = ⊥

-- ---- values that rules write down

-- The rules that write a value down test that its object is there, and the test says yes.
pub record AllThere (m : Machine) : Type 0 where
  -- of a value in a register
  pub registers : (r : ℕ) → is_there m.heap (m.regs r) ≡ true
  -- in a field or literal of an object
  pub fields : (n i : ℕ) (o : Object) (v : Value) → m.heap.at n ≡ Some o → field_of o.body i ≡ Some v → is_there m.heap v ≡ true
  -- of a class
  pub classes : (n : ℕ) (o : Object) → m.heap.at n ≡ Some o → is_there m.heap (Ref o.class) ≡ true
  -- of a known name
  pub known : (n : ℕ) → is_known n ≡ true → is_there m.heap (Ref n) ≡ true
  -- and, once it is made, of a new object
  pub made : (class v : Value) (what : Making) (next : Machine) (log : List LogRow) → make class what m ≡ Go v next log → is_there next.heap v ≡ true
