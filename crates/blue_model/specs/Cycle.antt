-- The cycle (chapter 28, interpret), whole runs, and what is left of a heap.
use Rattle.std.specs.Prelude.{zero, suc, ℕ, ◌+◌, ◌==◌, ◌||◌, Bool, List, []}
use Rattle.long_names.specs.Heap.{Heap}
use Rattle.long_names.specs.State.{SELECTOR, NEW_METHOD}
use Rattle.blue_model.specs.declared.cause.Cause.{Cause}
use Rattle.blue_model.specs.declared.event.Line.{Line}
use Rattle.blue_model.specs.declared.step.Step.{Step}
use Rattle.blue_model.specs.declared.step.Step.TheVariants.{Next, Quit, Keep}
use Rattle.blue_model.specs.Machine.{Machine, LogRow, Outcome, Go, Halt, Spent, Rule, ◌>>=◌, ◌>>◌, done, clear, numbers, set_numbers, at_rest}
use Rattle.blue_model.specs.Contexts.{fetch, park}
use Rattle.blue_model.specs.Devices.{due, picture}
use Rattle.blue_model.specs.State.{State, begin}
use Rattle.blue_model.specs.Processes.{check_switch}
use Rattle.blue_model.specs.Bytecodes.{bytecode}

-- one bytecode more was run than before it
unfoldable pub count_bytecode : ℕ → Rule (Unit {0})
count_bytecode before = do
  cpu ← numbers
  set_numbers (record cpu { ran = before + 1 })

-- the registers of a message that was sent
abbrev pub is_message : ℕ → Bool
is_message r = (r == SELECTOR) || (r == NEW_METHOD)

-- one bytecode; no message is left in its registers
unfoldable pub step : List Line → Rule Step
step events = do
  byte ← fetch
  end ← bytecode events byte
  clear is_message
  done end

-- the lines that are due, the timer and a process switch that waits come before the bytecode
unfoldable pub turn : List Line → Rule Step
turn events = do
  due events
  check_switch
  step events

unfoldable pub cycle : List Line → Rule Step
cycle events = do
  before ← numbers
  end ← turn events
  count_bytecode before.ran
  done end

-- ---- runs

-- why a run stopped
pub data Stopping : Type 0 where
  ByCause : (cause : Cause) → Stopping
  BySpentNames : Stopping

-- the machine after so many bytecodes, all of them run, or up to the one that ended the machine, and how the last one ended; or the last
-- machine before the bytecode that stopped, with its log
pub data Run : Type 0 where
  Ran : (end : Step) → (machine : Machine) → Run
  Stopped : (machine : Machine) → (why : Stopping) → (log : List LogRow) → Run

abbrev pub run_of : Machine → Outcome Step → Run
run_of m (Go end next log) = Ran end next
run_of m (Halt c log) = Stopped m (ByCause c) log
run_of m (Spent log) = Stopped m BySpentNames log

-- one cycle more, where it hasn't ended or stopped
abbrev pub one_more : List Line → Run → Run
one_more events (Ran Next m) = run_of m (cycle events m)
one_more events (Ran Quit m) = Ran Quit m
one_more events (Ran Keep m) = Ran Keep m
one_more events (Stopped m why log) = Stopped m why log

unfoldable pub run : List Line → ℕ → Machine → Run
run events zero m = Ran Next m
run events (suc n) m = one_more events (run events n m)

-- ---- a whole run

-- the parked machine, whether it ended itself, and its picture; or why it stopped, after how many bytecodes, and what they had said
pub data Ending : Type 0 where
  Parked : (end : Step) → (machine : Machine) → (picture : List ℕ) → Ending
  Stuck : (why : Stopping) → (ran : ℕ) → (said : List ℕ) → Ending

-- park, and the picture of the display then
unfoldable pub park_and_draw : Rule (List ℕ)
park_and_draw = do
  park
  picture

abbrev pub parked : Step → Machine → Outcome (List ℕ) → Ending
parked end m (Go bytes next log) = Parked end next bytes
parked end m (Halt c log) = Stuck (ByCause c) m.cpu.ran m.transcript
parked end m (Spent log) = Stuck BySpentNames m.cpu.ran m.transcript

abbrev pub ended : Run → Ending
ended (Ran end m) = parked end m (park_and_draw m)
ended (Stopped m why log) = Stuck why m.cpu.ran m.transcript

abbrev pub run_from : List Line → ℕ → Outcome (Unit {0}) → Ending
run_from events steps (Go a m log) = ended (run events steps m)
run_from events steps (Halt c log) = Stuck (ByCause c) 0 []
run_from events steps (Spent log) = Stuck BySpentNames 0 []

-- What becomes of a heap and a state under an event list: the start, at most so many bytecodes, and park, with the picture.
unfoldable pub ending : List Line → ℕ → State → Heap → Ending
ending events steps state h = run_from events steps (begin state (at_rest h))
