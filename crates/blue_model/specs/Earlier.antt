-- What was said before: a machine that had said something goes as one that hadn't, and what it says stands behind that.
use Rattle.std.specs.Prelude.{◌≡◌, ℕ, List, ◌++◌}
use Rattle.long_names.specs.Heap.{Heap}
use Rattle.blue_model.specs.declared.event.Line.{Line}
use Rattle.blue_model.specs.Machine.{Machine, Outcome, Go, Halt, Spent, Rule, at_rest}
use Rattle.blue_model.specs.State.{State, begin}
use Rattle.blue_model.specs.Cycle.{ByCause, BySpentNames, Run, Ran, Stopped, run, Ending, Parked, Stuck, ended}
use Rattle.blue_model.specs.Logs.{rows_from, lives_from, said_by, Course}

-- ---- with something said before

-- the machine, where this was said before all that it has said
abbrev pub with_earlier : List ℕ → Machine → Machine
with_earlier z m = record m { transcript = z ++ m.transcript }

-- the same answer or cause, and the same log
abbrev pub outcome_with_earlier : {A : Type 0} → List ℕ → Outcome A → Outcome A
outcome_with_earlier z (Go a m log) = Go a (with_earlier z m) log
outcome_with_earlier z (Halt c log) = Halt c log
outcome_with_earlier z (Spent log) = Spent log

abbrev pub run_with_earlier : List ℕ → Run → Run
run_with_earlier z (Ran end m) = Ran end (with_earlier z m)
run_with_earlier z (Stopped m why log) = Stopped (with_earlier z m) why log

abbrev pub ending_with_earlier : List ℕ → Ending → Ending
ending_with_earlier z (Parked end m drawn) = Parked end (with_earlier z m) drawn
ending_with_earlier z (Stuck why ran said) = Stuck why ran (z ++ said)

-- the same rows and living objects after each bytecode
abbrev pub course_with_earlier : List ℕ → Course → Course
course_with_earlier z c = record { ending = ending_with_earlier z c.ending; said = λ k. z ++ c.said k; rows = c.rows; lives = c.lives }

-- The law of a rule: what was said before changes neither its way nor what it says.
pub record IgnoresEarlier {A : Type 0} (p : Rule A) : Type 0 where
  pub same : (z : List ℕ) (m : Machine) → p (with_earlier z m) ≡ outcome_with_earlier z (p m)

-- ---- a whole run from any machine

-- how it ends, by what the start of this machine came to
abbrev pub ending_of : List Line → ℕ → Machine → Outcome (Unit {0}) → Ending
ending_of events steps before (Go a m log) = ended (run events steps m)
ending_of events steps before (Halt c log) = Stuck (ByCause c) 0 before.transcript
ending_of events steps before (Spent log) = Stuck BySpentNames 0 before.transcript

-- what was said after k bytecodes
abbrev pub spoken_in : List Line → ℕ → Machine → Outcome (Unit {0}) → List ℕ
spoken_in events k before (Go a m log) = said_by (run events k m)
spoken_in events k before (Halt c log) = before.transcript
spoken_in events k before (Spent log) = before.transcript

-- What a whole run of this machine comes to. Of the machine at rest over a heap it is the `course` of the heap.
abbrev pub course_of : List Line → ℕ → State → Machine → Course
course_of events steps state m = record {
  ending = ending_of events steps m (begin state m);
  said = λ k. spoken_in events k m (begin state m);
  rows = λ k. rows_from events steps k (begin state m);
  lives = λ k. lives_from events steps k (begin state m);
}

-- the machine at rest, where this was said before
abbrev pub at_rest_after : List ℕ → Heap → Machine
at_rest_after z h = record (at_rest h) { transcript = z }
