-- A machine that is parked and starts again on what is kept of it: what loading does with what was saved.
use Rattle.std.specs.Prelude.{◌≡◌, pos, [], Option, Some, is_some}
use Rattle.std.specs.Option.{option_and_then}
use Rattle.long_names.specs.declared.value.Value.{Value}
use Rattle.long_names.specs.declared.value.Value.TheVariants.{Int, Ref}
use Rattle.long_names.specs.Names.{SCHEDULER_ASSOCIATION}
use Rattle.long_names.specs.Heap.{Heap}
use Rattle.long_names.specs.Kept.{kept, no_roots}
use Rattle.long_names.specs.State.{ACTIVE_CONTEXT, HOME, METHOD, RECEIVER, SELECTOR, NEW_METHOD, NEW_PROCESS}
use Rattle.blue_model.specs.declared.indexes.TheConstants.{VALUE_INDEX, ASSOCIATION_SIZE, ACTIVE_PROCESS_INDEX, SCHEDULER_SIZE, SUSPENDED_CONTEXT_INDEX, PROCESS_SIZE, METHOD_INDEX, RECEIVER_INDEX, TEMP_FRAME_START}
use Rattle.blue_model.specs.Machine.{Machine, Rule, ◌>>◌, numbers_at_rest, at_rest}
use Rattle.blue_model.specs.Parts.{field, home_of}
use Rattle.blue_model.specs.ClassList.{part_in}
use Rattle.blue_model.specs.Contexts.{park}
use Rattle.blue_model.specs.Devices.{clock, timer_at}
use Rattle.blue_model.specs.State.{name_in, state_of, begin}

-- a start on the kept objects of a machine that is parked, with its state. All else is at rest
unfoldable pub start_on_kept : Rule (Unit {0})
start_on_kept m = begin (state_of m) (at_rest (kept m.heap no_roots))

-- a machine that isn't parked is parked, and what was saved then is loaded
unfoldable pub loaded : Rule (Unit {0})
loaded = do
  park
  start_on_kept

-- ---- what a start finds in a heap

-- the value of the scheduler's association
abbrev pub scheduler_in : Heap → Option Value
scheduler_in h = part_in h (field ASSOCIATION_SIZE VALUE_INDEX) (Ref SCHEDULER_ASSOCIATION)

-- the process that the scheduler says is active, and the context that it is suspended in
abbrev pub process_in : Heap → Option Value
process_in h = option_and_then (part_in h (field SCHEDULER_SIZE ACTIVE_PROCESS_INDEX)) (scheduler_in h)

abbrev pub first_context : Heap → Option Value
first_context h = option_and_then (part_in h (field PROCESS_SIZE SUSPENDED_CONTEXT_INDEX)) (process_in h)

-- s has started on what is kept of p, which was parked
pub record HasLoaded (p s : Machine) : Type 0 where
  pub heap : s.heap ≡ kept p.heap no_roots
  -- it is in the first context, with its home, method and receiver
  pub context : first_context s.heap ≡ Some (s.regs ACTIVE_CONTEXT)
  pub home : part_in s.heap (home_of (s.regs ACTIVE_CONTEXT)) (s.regs ACTIVE_CONTEXT) ≡ Some (s.regs HOME)
  pub method : part_in s.heap (field TEMP_FRAME_START METHOD_INDEX) (s.regs HOME) ≡ Some (s.regs METHOD)
  pub receiver : part_in s.heap (field TEMP_FRAME_START RECEIVER_INDEX) (s.regs HOME) ≡ Some (s.regs RECEIVER)
  -- no message is being sent, no switch waits, and nothing was said
  pub selector : s.regs SELECTOR ≡ Int (pos 0)
  pub new_method : s.regs NEW_METHOD ≡ Int (pos 0)
  pub new_process : s.regs NEW_PROCESS ≡ Int (pos 0)
  pub transcript : s.transcript ≡ []
  -- the clock goes on, and so do the display and the semaphores that are kept
  pub numbers : s.cpu ≡ record numbers_at_rest {
    ip = s.cpu.ip;
    sp = s.cpu.sp;
    base = clock p.cpu;
    display = is_some (name_in (state_of p).display);
    input = is_some (name_in (state_of p).input);
    timer = timer_at (is_some (name_in (state_of p).timer)) (state_of p).tick;
  }
