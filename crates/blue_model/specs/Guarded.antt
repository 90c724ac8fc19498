-- A guarded run: each time that primitive 97 was done, the machine is kept under a new serial number and goes on as what was loaded of it.
use Rattle.std.specs.Prelude.{◌≡◌, zero, suc, ℕ, ◌+◌, ◌==◌, Bool, true, false, nat_lt, List, [], ◌++◌, if◌then◌else◌}
use Rattle.blue_model.specs.declared.event.Line.{Line}
use Rattle.blue_model.specs.declared.limits.TheConstants.{LAST_SERIAL}
use Rattle.blue_model.specs.declared.step.Step.{Step}
use Rattle.blue_model.specs.declared.step.Step.TheVariants.{Next, Quit, Keep}
use Rattle.blue_model.specs.Machine.{Machine, LogRow, Outcome, Go, Halt, Spent}
use Rattle.blue_model.specs.Cycle.{Stopping, ByCause, BySpentNames, Run, Ran, Stopped, cycle}
use Rattle.blue_model.specs.Contexts.{park}
use Rattle.blue_model.specs.Law.{IsThinned}
use Rattle.blue_model.specs.Loaded.{loaded}

-- where a guarded run broke: in a bytecode; or at the end of one that did 97, in parking, or in the start on what was kept
pub data Stage : Type 0 where
  AtBytecode : Stage
  AtParking : Stage
  AtStart : Stage

-- The machine that goes on, or how it ended, with the serial of what was kept last, 0 for none, and the rows of a loading that belong to
-- the next bytecode. Or where it broke, the machine before the bytecode that stopped, the serial of what was kept last, why it stopped,
-- and the rows of that bytecode: where a loading stopped, its machine has run the bytecode that did 97, and the rows belong to the next.
pub data Guarded : Type 0 where
  Going : (end : Step) → (machine : Machine) → (serial : ℕ) → (rows : List LogRow) → Guarded
  Broken : (stage : Stage) → (machine : Machine) → (serial : ℕ) → (why : Stopping) → (log : List LogRow) → Guarded

-- a checkpoint may be made as long as there are serials
abbrev pub allowed : ℕ → Machine → Machine
allowed serial m = record m { cpu = record m.cpu { vault = nat_lt serial LAST_SERIAL } }

-- what was loaded of m, with what m knows of this run: the transcript, what was run of how much, what was taken of the events, and what
-- was made
abbrev pub as_before : Machine → Machine → Machine
as_before m next = record next { transcript = m.transcript; largest = m.largest; cpu = record next.cpu { base = m.cpu.base; ran = m.cpu.ran; line = m.cpu.line; words_in = m.cpu.words_in; words_out = m.cpu.words_out } }

-- A loading that stopped, by what parking came to: where it went through, its machine was kept under the next serial before the start
-- on it stopped.
abbrev pub broken_by : ℕ → Machine → Outcome (Unit {0}) → Stopping → List LogRow → Guarded
broken_by serial m (Go a p rows) why log = Broken AtStart m (serial + 1) why log
broken_by serial m (Halt c rows) why log = Broken AtParking m serial why log
broken_by serial m (Spent rows) why log = Broken AtParking m serial why log

-- the end of a bytecode that did 97, by what loading its machine came to: it was kept under the next serial
abbrev pub kept_after : ℕ → Machine → Outcome (Unit {0}) → Guarded
kept_after serial m (Go a next log) = Going Next (allowed (serial + 1) (as_before m next)) (serial + 1) log
kept_after serial m (Halt c log) = broken_by serial m (park m) (ByCause c) log
kept_after serial m (Spent log) = broken_by serial m (park m) BySpentNames log

abbrev pub guarded_step : ℕ → List LogRow → Machine → Outcome Step → Guarded
guarded_step serial rows m (Go Next next log) = Going Next next serial []
guarded_step serial rows m (Go Quit next log) = Going Quit next serial []
guarded_step serial rows m (Go Keep next log) = kept_after serial next (loaded next)
guarded_step serial rows m (Halt c log) = Broken AtBytecode m serial (ByCause c) (rows ++ log)
guarded_step serial rows m (Spent log) = Broken AtBytecode m serial BySpentNames (rows ++ log)

-- one cycle more, where it hasn't ended or stopped
abbrev pub guarded_more : List Line → Guarded → Guarded
guarded_more events (Going Next m serial rows) = guarded_step serial rows m (cycle events m)
guarded_more events (Going Quit m serial rows) = Going Quit m serial rows
guarded_more events (Going Keep m serial rows) = Going Keep m serial rows
guarded_more events (Broken stage m serial why log) = Broken stage m serial why log

-- so many cycles more
unfoldable pub guarded_on : List Line → ℕ → Guarded → Guarded
guarded_on events zero g = g
guarded_on events (suc k) g = guarded_more events (guarded_on events k g)

-- so many cycles of a machine whose last checkpoint has this serial
unfoldable pub guarded : List Line → ℕ → ℕ → Machine → Guarded
guarded events k serial m = guarded_on events k (Going Next (allowed serial m) serial [])

-- ---- what is said of it

-- two guarded runs are the same but for a thinning
abbrev pub GuardedAgree : Guarded → Guarded → Type 0
GuardedAgree (Going end m serial rows) (Going last s number lines) = (end ≡ last) × (serial ≡ number) × (rows ≡ lines) × IsThinned m s
GuardedAgree (Broken stage m serial why log) (Broken place s number reason rows) = (stage ≡ place) × (serial ≡ number) × (why ≡ reason) × (log ≡ rows) × IsThinned m s
GuardedAgree _ _ = ⊥

-- an ordinary run that keeps nothing, as a guarded one
abbrev pub guarded_of : ℕ → Run → Guarded
guarded_of serial (Ran end m) = Going end m serial []
guarded_of serial (Stopped m why log) = Broken AtBytecode m serial why log

-- the rows that came before the first of its bytecodes are due as long as none was run
abbrev pub rows_due : Machine → Machine → List LogRow → List LogRow
rows_due m n rows = if n.cpu.ran == m.cpu.ran then rows else []

-- the cycle did 97
abbrev pub is_keep : Outcome Step → Bool
is_keep (Go Next m log) = false
is_keep (Go Quit m log) = false
is_keep (Go Keep m log) = true
is_keep (Halt c log) = false
is_keep (Spent log) = false

abbrev pub keeps_next : List Line → Guarded → Bool
keeps_next events (Going Next m serial rows) = is_keep (cycle events m)
keeps_next events (Going Quit m serial rows) = false
keeps_next events (Going Keep m serial rows) = false
keeps_next events (Broken stage m serial why log) = false

-- and so many of a run's next k cycles
abbrev pub times_kept : List Line → ℕ → Guarded → ℕ
times_kept events zero g = 0
times_kept events (suc k) g = times_kept events k g + (if keeps_next events (guarded_on events k g) then 1 else 0)

-- a 97 that was done before parking stopped kept nothing
abbrev pub times_unkept : Stage → ℕ
times_unkept AtBytecode = 0
times_unkept AtParking = 1
times_unkept AtStart = 0
