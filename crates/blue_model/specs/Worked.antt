-- A small heap with processes as a worked value.
use Rattle.std.specs.Prelude.{ℕ, pos, ◌==◌, if◌then◌else◌, List, [], ◌∷◌, Option, None}
use Rattle.long_names.specs.declared.value.Value.{Value}
use Rattle.long_names.specs.declared.value.Value.TheVariants.{Int, Ref}
use Rattle.long_names.specs.declared.object.Object.{Object}
use Rattle.long_names.specs.Names.{SCHEDULER_ASSOCIATION, is_known}
use Rattle.long_names.specs.Heap.{Heap}
use Rattle.blue_model.specs.Machine.{Machine, Outcome, Go, Halt, Spent, Rule, at_rest}
use Rattle.blue_model.specs.Queues.{field_at, Queue, Schedule, current_in}
use Rattle.blue_model.specs.Base.{nil, array, SCHEDULER}

-- the names of the Array of the scheduler's lists, the lists of priorities 1 to 3, a semaphore, and processes
abbrev pub LISTS : ℕ
LISTS = 62

abbrev pub LOW_LIST : ℕ
LOW_LIST = 64

abbrev pub MIDDLE_LIST : ℕ
MIDDLE_LIST = 66

abbrev pub HIGH_LIST : ℕ
HIGH_LIST = 68

abbrev pub GATE : ℕ
GATE = 70

abbrev pub RUNNER : ℕ
RUNNER = 72

abbrev pub LOW_FIRST : ℕ
LOW_FIRST = 74

abbrev pub LOW_SECOND : ℕ
LOW_SECOND = 76

abbrev pub MIDDLE : ℕ
MIDDLE = 78

abbrev pub HIGH : ℕ
HIGH = 80

abbrev pub NEWCOMER : ℕ
NEWCOMER = 82

-- a process with this next link, priority and list
abbrev pub process_of : Value → ℕ → Value → Option Object
process_of next priority list = array (next ∷ nil ∷ Int (pos priority) ∷ list ∷ [])

-- Two processes of priority 1 and one of priority 2 wait on the scheduler's lists, one of priority 3 waits at the semaphore, and one of
-- priority 2 runs. A newcomer of priority 1 stands on no list.
abbrev pub worked_heap : Heap
worked_heap = record {
  at = λ n.
      if n == SCHEDULER_ASSOCIATION then array (nil ∷ Ref SCHEDULER ∷ []) else (
      if n == SCHEDULER then array (Ref LISTS ∷ Ref RUNNER ∷ []) else (
      if n == LISTS then array (Ref LOW_LIST ∷ Ref MIDDLE_LIST ∷ Ref HIGH_LIST ∷ []) else (
      if n == LOW_LIST then array (Ref LOW_FIRST ∷ Ref LOW_SECOND ∷ []) else (
      if n == MIDDLE_LIST then array (Ref MIDDLE ∷ Ref MIDDLE ∷ []) else (
      if n == HIGH_LIST then array (nil ∷ nil ∷ []) else (
      if n == GATE then array (Ref HIGH ∷ Ref HIGH ∷ Int (pos 0) ∷ []) else (
      if n == RUNNER then process_of nil 2 nil else (
      if n == LOW_FIRST then process_of (Ref LOW_SECOND) 1 (Ref LOW_LIST) else (
      if n == LOW_SECOND then process_of nil 1 (Ref LOW_LIST) else (
      if n == MIDDLE then process_of nil 2 (Ref MIDDLE_LIST) else (
      if n == HIGH then process_of nil 3 (Ref GATE) else (
      if n == NEWCOMER then process_of nil 1 nil else (
      if is_known n then array [] else None)))))))))))));
  next = 84;
}

-- ---- its schedule

abbrev pub queue_of : ℕ → List ℕ → Queue
queue_of list names = record { list = list; names = names }

abbrev pub worked_schedule : Schedule
worked_schedule = record {
  scheduler = SCHEDULER;
  array = LISTS;
  queues = queue_of LOW_LIST (LOW_FIRST ∷ LOW_SECOND ∷ []) ∷ queue_of MIDDLE_LIST (MIDDLE ∷ []) ∷ queue_of HIGH_LIST [] ∷ [];
  semaphores = queue_of GATE (HIGH ∷ []) ∷ [];
  current = RUNNER;
}

-- ---- what a rule leaves of it

abbrev pub left_by : {A : Type 0} → (Machine → Option A) → Outcome (Unit {0}) → Option A
left_by f (Go a m log) = f m
left_by f (Halt c log) = None
left_by f (Spent log) = None

-- the current process
abbrev pub current_after : Rule (Unit {0}) → Option Value
current_after p = left_by (λ m. current_in m SCHEDULER) (p (at_rest worked_heap))

-- field i of the object of a name
abbrev pub field_after : Rule (Unit {0}) → ℕ → ℕ → Option Value
field_after p n i = left_by (λ m. field_at m.heap n i) (p (at_rest worked_heap))
