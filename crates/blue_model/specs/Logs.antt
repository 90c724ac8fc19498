-- What stands in the logs of a whole run: the rows of each of its bytecodes, the objects that it makes, and how many objects live then.
use Rattle.std.specs.Prelude.{zero, suc, ◌≡◌, ◌≤◌, ℕ, ◌+◌, ◌==◌, ◌||◌, Bool, true, max, nat_lt, nat_le, List, [], ◌∷◌, ◌++◌, slice_get, Some, if◌then◌else◌}
use Rattle.long_names.specs.Heap.{Heap, object_count}
use Rattle.long_names.specs.Kept.{any_below, kept}
use Rattle.long_names.specs.Need.{is_pinned}
use Rattle.long_names.specs.Objects.{is_ref}
use Rattle.long_names.specs.declared.limits.TheConstants.{MACHINE_REGISTERS, SLOTS}
use Rattle.blue_model.specs.declared.event.Line.{Line}
use Rattle.blue_model.specs.declared.step.Step.TheVariants.{Next, Quit, Keep}
use Rattle.blue_model.specs.Machine.{Machine, LogRow, Outcome, Go, Halt, Spent, log_of, at_rest}
use Rattle.blue_model.specs.State.{State, begin}
use Rattle.blue_model.specs.Cycle.{Run, Ran, Stopped, run, cycle, park_and_draw, Ending, ending}

-- ---- makings

-- the objects that a log makes, in order
abbrev pub made_in : List LogRow → List ℕ
made_in [] = []
made_in (row ∷ rows) = if row.makes then row.object ∷ made_in rows else made_in rows

-- so many names, from this one on, as makings give them out
abbrev pub names_from : ℕ → ℕ → List ℕ
names_from name zero = []
names_from name (suc n) = name ∷ names_from (name + 2) n

-- the words that the largest object takes that was made by the end of a log, where the largest before it took so many
abbrev pub largest_after : ℕ → List LogRow → ℕ
largest_after words [] = words
largest_after words (row ∷ rows) = if row.makes then largest_after (max words row.own) rows else largest_after words rows

-- each object that a log makes takes at most so many words
abbrev pub AreWithin : ℕ → List LogRow → Type 0
AreWithin words [] = Unit {0}
AreWithin words (row ∷ rows) = (row.makes ≡ true → row.own ≤ words) × AreWithin words rows

-- ---- what lives

-- the names in a machine's registers and slots
abbrev pub is_root : Machine → ℕ → Bool
is_root m n = any_below MACHINE_REGISTERS (λ r. is_ref n (m.regs r)) || any_below SLOTS (λ i. is_pinned n (m.slots i))

-- how many objects live: those that are kept
unfoldable pub living : Machine → ℕ
living m = object_count (kept m.heap (is_root m))

-- how many live at each making of a log, in order, where so many lived before it: those, and what the log has made by then
abbrev pub lives_after : ℕ → List LogRow → List ℕ
lives_after before [] = []
lives_after before (row ∷ rows) = if row.makes then (before + 1) ∷ lives_after (before + 1) rows else lives_after before rows

-- and at each making of a machine's next cycle
unfoldable pub lives : List Line → Machine → List ℕ
lives events m = lives_after (living m) (log_of (cycle events m))

-- so many live at one of these makings
abbrev pub IsLive : ℕ → List ℕ → Type 0
IsLive live makings = (i : ℕ) × (slice_get makings i ≡ Some live)

-- ---- the bytecodes of a whole run of at most so many

-- the rows of bytecode k + 1, by what the run came to in k cycles: those of its cycle, or after the last bytecode those of park and the
-- picture. A bytecode past those of the run has none
abbrev pub rows_after : List Line → ℕ → ℕ → Run → List LogRow
rows_after events steps k (Ran Next m) = if nat_lt k steps then log_of (cycle events m) else (if k == steps then log_of (park_and_draw m) else [])
rows_after events steps k (Ran Quit m) = if nat_le k steps then (if k == m.cpu.ran then log_of (park_and_draw m) else []) else []
rows_after events steps k (Ran Keep m) = if nat_le k steps then (if k == m.cpu.ran then log_of (park_and_draw m) else []) else []
rows_after events steps k (Stopped m why log) = []

-- the rows of what comes before the first bytecode stand as rows of that
abbrev pub rows_from : List Line → ℕ → ℕ → Outcome (Unit {0}) → List LogRow
rows_from events steps k (Go a m log) = (if k == 0 then log else []) ++ rows_after events steps k (run events k m)
rows_from events steps k (Halt c log) = if k == 0 then log else []
rows_from events steps k (Spent log) = if k == 0 then log else []

-- the rows of bytecode k + 1
unfoldable pub rows_of_bytecode : List Line → ℕ → State → Heap → ℕ → List LogRow
rows_of_bytecode events steps state h k = rows_from events steps k (begin state (at_rest h))

-- How many objects live at each making of bytecode k + 1: a making's number is that of the machine after k bytecodes, and of what its
-- cycle has made by then. Start, park and picture make nothing.
abbrev pub lives_by : List Line → ℕ → ℕ → Run → List ℕ
lives_by events steps k (Ran Next m) = if nat_lt k steps then lives events m else []
lives_by events steps k (Ran Quit m) = []
lives_by events steps k (Ran Keep m) = []
lives_by events steps k (Stopped m why log) = []

abbrev pub lives_from : List Line → ℕ → ℕ → Outcome (Unit {0}) → List ℕ
lives_from events steps k (Go a m log) = lives_by events steps k (run events k m)
lives_from events steps k (Halt c log) = []
lives_from events steps k (Spent log) = []

unfoldable pub lives_in_bytecode : List Line → ℕ → State → Heap → ℕ → List ℕ
lives_in_bytecode events steps state h k = lives_from events steps k (begin state (at_rest h))

-- ---- what was said

-- what was said in k cycles, or as many as came before a stop
abbrev pub said_by : Run → List ℕ
said_by (Ran end m) = m.transcript
said_by (Stopped m why log) = m.transcript

abbrev pub said_from : List Line → ℕ → Outcome (Unit {0}) → List ℕ
said_from events k (Go a m log) = said_by (run events k m)
said_from events k (Halt c log) = []
said_from events k (Spent log) = []

-- the transcript after k bytecodes of a whole run
unfoldable pub said_after : List Line → State → Heap → ℕ → List ℕ
said_after events state h k = said_from events k (begin state (at_rest h))

-- ---- a whole run

-- What a whole run of the model comes to: how it ends, and for each k what it has said after k bytecodes, the rows of bytecode k + 1, and
-- how many objects live at each of its makings. It stands beside `Ending`, which says no more than how a run ends.
pub record Course : Type 0 where
  pub ending : Ending
  pub said : ℕ → List ℕ
  pub rows : ℕ → List LogRow
  pub lives : ℕ → List ℕ

abbrev pub course : List Line → ℕ → State → Heap → Course
course events steps state h = record { ending = ending events steps state h; said = said_after events state h; rows = rows_of_bytecode events steps state h; lives = lives_in_bytecode events steps state h }
