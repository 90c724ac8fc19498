-- What a guarded run of the model comes to, bytecode by bytecode: its `course`, as that of a run that is not guarded is in `blue_model`.
use Rattle.std.specs.Prelude.{ℕ, ◌==◌, nat_le, nat_lt, List, [], ◌++◌, if◌then◌else◌}
use Rattle.long_names.specs.Heap.{Heap}
use Rattle.blue_model.specs.declared.event.Line.{Line}
use Rattle.blue_model.specs.declared.step.Step.TheVariants.{Next, Quit, Keep}
use Rattle.blue_model.specs.Machine.{Machine, LogRow, Outcome, Go, Halt, Spent, log_of, at_rest}
use Rattle.blue_model.specs.State.{State, begin}
use Rattle.blue_model.specs.Cycle.{ByCause, BySpentNames, Ending, Stuck, cycle, park_and_draw, parked}
use Rattle.blue_model.specs.Guarded.{AtStart, Guarded, Going, Broken, allowed, guarded_on}
use Rattle.blue_model.specs.Logs.{Course, lives}

-- The guarded run before its first bytecode, by what the start of this machine came to, where the last checkpoint has this serial. The rows of
-- the start belong to the first bytecode.
abbrev pub begun : ℕ → Machine → Outcome (Unit {0}) → Guarded
begun serial before (Go a m log) = Going Next (allowed serial m) serial log
begun serial before (Halt c log) = Broken AtStart before serial (ByCause c) log
begun serial before (Spent log) = Broken AtStart before serial BySpentNames log

-- ---- at a bytecode

-- what was said by then
abbrev pub said_at : Guarded → List ℕ
said_at (Going end m serial rows) = m.transcript
said_at (Broken stage m serial why log) = m.transcript

-- the serial of what was kept last by then
abbrev pub serial_at : Guarded → ℕ
serial_at (Going end m serial rows) = serial
serial_at (Broken stage m serial why log) = serial

-- the rows of bytecode k + 1 of at most so many, where the run came to this in k bytecodes: those of its cycle, behind those of a loading before it,
-- or after the last bytecode those of park and the picture; and where a loading behind bytecode k broke, its rows
abbrev pub rows_at : List Line → ℕ → ℕ → Guarded → List LogRow
rows_at events steps k (Going Next m serial rows) =
    if nat_lt k steps then rows ++ log_of (cycle events m) else (if k == steps then rows ++ log_of (park_and_draw m) else [])
rows_at events steps k (Going Quit m serial rows) = if nat_le k steps then (if k == m.cpu.ran then log_of (park_and_draw m) else []) else []
rows_at events steps k (Going Keep m serial rows) = []
rows_at events steps k (Broken stage m serial why log) = if k == m.cpu.ran then log else []

-- how many objects live at each making of bytecode k + 1
abbrev pub lives_at : List Line → ℕ → ℕ → Guarded → List ℕ
lives_at events steps k (Going Next m serial rows) = if nat_lt k steps then lives events m else []
lives_at events steps k (Going Quit m serial rows) = []
lives_at events steps k (Going Keep m serial rows) = []
lives_at events steps k (Broken stage m serial why log) = []

-- ---- the whole

-- how it ends: parked, with its picture, or stuck
abbrev pub ending_at : Guarded → Ending
ending_at (Going end m serial rows) = parked end m (park_and_draw m)
ending_at (Broken stage m serial why log) = Stuck why m.cpu.ran m.transcript

-- the course of so many bytecodes from here on
abbrev pub course_on : List Line → ℕ → Guarded → Course
course_on events steps g = record {
  ending = ending_at (guarded_on events steps g);
  said = λ k. said_at (guarded_on events k g);
  rows = λ k. rows_at events steps k (guarded_on events k g);
  lives = λ k. lives_at events steps k (guarded_on events k g);
}

-- What becomes of a heap and a state under an event list, in at most so many bytecodes, where the last checkpoint has this serial.
abbrev pub guarded_course : List Line → ℕ → ℕ → State → Heap → Course
guarded_course events steps serial state h = course_on events steps (begun serial (at_rest h) (begin state (at_rest h)))
