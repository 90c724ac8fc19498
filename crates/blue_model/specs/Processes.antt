-- Processes and semaphores (chapter 29, process-oriented control primitives). A list of processes links them by their first fields.
use Rattle.std.specs.Prelude.{zero, suc, ℕ, ℤ, pos, negsuc, ◌-◌, ◌+ℤ◌, ◌-ℤ◌, nat_lt, Bool, true, false, is_some, List, [], ◌∷◌, Option, Some, None, if◌then◌else◌}
use Rattle.std.specs.Int.Signed.{lt_z}
use Rattle.long_names.specs.declared.value.Value.{Value}
use Rattle.long_names.specs.declared.value.Value.TheVariants.{Int}
use Rattle.long_names.specs.declared.limits.TheConstants.{SMALL_INTEGERS}
use Rattle.long_names.specs.Names.{NIL}
use Rattle.long_names.specs.State.{ACTIVE_CONTEXT, NEW_PROCESS}
use Rattle.blue_model.specs.declared.answer.Answer.{Answer}
use Rattle.blue_model.specs.declared.answer.Answer.TheVariants.{Done}
use Rattle.blue_model.specs.declared.cause.Cause.TheVariants.{Shape, NoProcess}
use Rattle.blue_model.specs.declared.indexes.TheConstants.{PROCESS_LISTS_INDEX, ACTIVE_PROCESS_INDEX, FIRST_LINK_INDEX, LAST_LINK_INDEX, EXCESS_SIGNALS_INDEX, SEMAPHORE_SIZE, NEXT_LINK_INDEX, SUSPENDED_CONTEXT_INDEX, PRIORITY_INDEX, MY_LIST_INDEX, PROCESS_SIZE, SCHEDULER_SIZE}
use Rattle.blue_model.specs.declared.primitives.TheConstants.{PRIMITIVE_SIGNAL, PRIMITIVE_WAIT, PRIMITIVE_RESUME, PRIMITIVE_SUSPEND}
use Rattle.blue_model.specs.Machine.{Rule, ◌>>=◌, ◌>>◌, done, halt, given, pick, register, put_register, numbers, set_numbers, part, known}
use Rattle.blue_model.specs.Parts.{is_nil, size, field, number}
use Rattle.blue_model.specs.Contexts.{store_field, stack, enter, scheduler, active_process}
use Rattle.blue_model.specs.Messages.{put_stack}
use Rattle.blue_model.specs.Trials.{where_true, ◌>>?◌, peek, Primitive}
use Rattle.blue_model.specs.Storage.{is_same, row}

-- ---- lists of processes

-- the process becomes the next of the last
unfoldable pub link_behind : Value → Value → Rule (Unit {0})
link_behind process list = do
  last ← part Shape (field 0 LAST_LINK_INDEX) list
  store_field last NEXT_LINK_INDEX process

-- addLastLink:toList:, and the list is the process's own
unfoldable pub add : Value → Value → Rule (Unit {0})
add process list = do
  first ← part Shape (field 0 FIRST_LINK_INDEX) list
  pick (is_nil first) (store_field list FIRST_LINK_INDEX process) (link_behind process list)
  store_field list LAST_LINK_INDEX process
  store_field process MY_LIST_INDEX list

unfoldable pub empty_list : Value → Rule (Unit {0})
empty_list list = do
  nil ← known NIL
  store_field list FIRST_LINK_INDEX nil
  store_field list LAST_LINK_INDEX nil

-- the next of the first becomes the first
unfoldable pub shorten : Value → Value → Rule (Unit {0})
shorten list first = do
  next ← part Shape (field 0 NEXT_LINK_INDEX) first
  store_field list FIRST_LINK_INDEX next

-- removeFirstLinkOfList:
unfoldable pub take : Value → Rule Value
take list = do
  first ← part Shape (field 0 FIRST_LINK_INDEX) list
  last ← part Shape (field 0 LAST_LINK_INDEX) list
  pick (is_same first last) (empty_list list) (shorten list first)
  nil ← known NIL
  store_field first NEXT_LINK_INDEX nil
  done first

-- ---- the scheduler

-- the scheduler's lists, one for each priority from 1 on
unfoldable pub process_lists : Rule Value
process_lists = do
  scheduler ← scheduler
  part Shape (field 0 PROCESS_LISTS_INDEX) scheduler

-- the list of a priority, of so many
abbrev pub list_index : ℤ → ℕ → Option ℕ
list_index (pos zero) n = None
list_index (pos (suc i)) n = if nat_lt i n then Some i else None
list_index (negsuc k) n = None

-- sleep:
unfoldable pub sleep : Value → Rule (Unit {0})
sleep process = do
  priority ← part Shape (number 0 PRIORITY_INDEX) process
  lists ← process_lists
  n ← part Shape (size 0) lists
  i ← given Shape (list_index priority n)
  list ← part Shape (field 0 i) lists
  add process list

-- the first of the highest of n lists that isn't empty
unfoldable pub wake_among : ℕ → Value → Rule Value
wake_among zero lists = halt NoProcess
wake_among (suc n) lists = do
  list ← part Shape (field 0 n) lists
  first ← part Shape (field 0 FIRST_LINK_INDEX) list
  pick (is_nil first) (wake_among n lists) (take list)

-- wakeHighestPriority
unfoldable pub wake : Rule Value
wake = do
  lists ← process_lists
  n ← part Shape (size 0) lists
  wake_among n lists

-- ---- switches

-- activeProcess: the new process where a switch waits, and otherwise the one that the scheduler says
unfoldable pub current_process : Rule Value
current_process = do
  cpu ← numbers
  pick cpu.waiting (register NEW_PROCESS) active_process

-- transferTo:
unfoldable pub transfer : Value → Rule (Unit {0})
transfer process = do
  put_register NEW_PROCESS process
  cpu ← numbers
  set_numbers (record cpu { waiting = true })

-- resume:
unfoldable pub resume : Value → Rule (Unit {0})
resume process = do
  priority ← part Shape (number 0 PRIORITY_INDEX) process
  current ← current_process
  own ← part Shape (number 0 PRIORITY_INDEX) current
  pick (lt_z own priority) (sleep current >> transfer process) (sleep process)

-- a switch: the new process becomes the active one, and its context is entered
unfoldable pub switch : Rule (Unit {0})
switch = do
  scheduler ← scheduler
  process ← part Shape (field SCHEDULER_SIZE ACTIVE_PROCESS_INDEX) scheduler
  active ← register ACTIVE_CONTEXT
  store_field process SUSPENDED_CONTEXT_INDEX active
  new ← register NEW_PROCESS
  store_field scheduler ACTIVE_PROCESS_INDEX new
  context ← part Shape (field 0 SUSPENDED_CONTEXT_INDEX) new
  put_register NEW_PROCESS (Int (pos 0))
  cpu ← numbers
  set_numbers (record cpu { waiting = false })
  enter context

-- checkProcessSwitch
unfoldable pub check_switch : Rule (Unit {0})
check_switch = do
  cpu ← numbers
  pick cpu.waiting switch (done tt)

-- suspendActive: the current process stops, and the one that wakes goes on
unfoldable pub suspend_active : Rule (Unit {0})
suspend_active = do
  woken ← wake
  transfer woken

-- ---- semaphores

-- the signals that nobody waited for, and one more: as many as a SmallInteger can say
abbrev pub one_more : ℤ → ℤ
one_more excess = if lt_z excess (pos (SMALL_INTEGERS - 1)) then excess +ℤ pos 1 else excess

unfoldable pub add_signal : Value → Rule (Unit {0})
add_signal semaphore = do
  excess ← part Shape (number 0 EXCESS_SIGNALS_INDEX) semaphore
  store_field semaphore EXCESS_SIGNALS_INDEX (Int (one_more excess))

-- synchronousSignal:
unfoldable pub signal : Value → Rule (Unit {0})
signal semaphore = do
  first ← part Shape (field 0 FIRST_LINK_INDEX) semaphore
  pick (is_nil first) (add_signal semaphore) (take semaphore >>= resume)

-- the current process waits at the semaphore
unfoldable pub sleep_at : Value → Rule (Unit {0})
sleep_at semaphore = do
  current ← current_process
  add current semaphore
  suspend_active

unfoldable pub wait : Value → Rule (Unit {0})
wait semaphore = do
  excess ← part Shape (number 0 EXCESS_SIGNALS_INDEX) semaphore
  pick (lt_z (pos 0) excess) (store_field semaphore EXCESS_SIGNALS_INDEX (Int (excess -ℤ pos 1))) (sleep_at semaphore)

-- ---- primitives. The receiver, which is the answer, stays on the stack

-- primitiveSignal
unfoldable pub primitive_signal : Rule Answer
primitive_signal = do
  semaphore ← stack 0
  peek (number SEMAPHORE_SIZE EXCESS_SIGNALS_INDEX) semaphore >>? λ excess. signal semaphore >> done Done

-- primitiveWait
unfoldable pub primitive_wait : Rule Answer
primitive_wait = do
  semaphore ← stack 0
  peek (number SEMAPHORE_SIZE EXCESS_SIGNALS_INDEX) semaphore >>? λ excess. wait semaphore >> done Done

-- whether a priority has its list
unfoldable pub has_list : ℤ → Rule Bool
has_list priority = do
  lists ← process_lists
  n ← part Shape (size 0) lists
  done (is_some (list_index priority n))

-- primitiveResume: of a process whose priority has its list
unfoldable pub primitive_resume : Rule Answer
primitive_resume = do
  process ← stack 0
  peek (number PROCESS_SIZE PRIORITY_INDEX) process >>? λ priority. has_list priority >>= λ has. where_true has (resume process >> done Done)

-- primitiveSuspend: of the current process alone. nil is the answer when it goes on again
unfoldable pub primitive_suspend : Rule Answer
primitive_suspend = do
  process ← stack 0
  current ← current_process
  where_true (is_same process current) (do
    nil ← known NIL
    put_stack 0 nil
    suspend_active
    done Done)

unfoldable pub process_primitives : List Primitive
process_primitives =
    row PRIMITIVE_SIGNAL 0 primitive_signal
    ∷ row PRIMITIVE_WAIT 0 primitive_wait
    ∷ row PRIMITIVE_RESUME 0 primitive_resume
    ∷ row PRIMITIVE_SUSPEND 0 primitive_suspend
    ∷ []
