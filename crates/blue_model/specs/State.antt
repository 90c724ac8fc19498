-- What a machine knows beside its heap and is kept with it: the clock, the display, and who is signaled for input and by the timer.
use Rattle.std.specs.Prelude.{zero, suc, ℕ, Bool, true, false, Option, Some, None, is_some, if◌then◌else◌}
use Rattle.long_names.specs.declared.value.Value.{Value}
use Rattle.long_names.specs.declared.value.Value.TheVariants.{Int, Ref}
use Rattle.long_names.specs.Heap.{Heap}
use Rattle.long_names.specs.Kept.{kept, no_roots}
use Rattle.long_names.specs.State.{INPUT_SEMAPHORE, TIMER_SEMAPHORE, DISPLAY}
use Rattle.blue_model.specs.Machine.{Machine, Rule, ◌>>=◌, ◌>>◌, done, known, numbers, put_register, set_numbers}
use Rattle.blue_model.specs.Contexts.{start}
use Rattle.blue_model.specs.Devices.{clock, timer_at}

-- How many bytecodes were run so far, the names of the display form and of the two semaphores, 0 where there is none, and the tick at
-- which the timer's semaphore is signaled, 0 where there is no timer.
pub record State : Type 0 where
  pub clock : ℕ
  pub display : ℕ
  pub input : ℕ
  pub timer : ℕ
  pub tick : ℕ

-- of a machine that never ran
abbrev pub no_state : State
no_state = record { clock = 0; display = 0; input = 0; timer = 0; tick = 0 }

-- ---- a start with it

-- the name that a word of the state is, if it is one
abbrev pub name_in : ℕ → Option ℕ
name_in zero = None
name_in (suc n) = Some (suc n)

-- the register holds the object of this name, where there is one
abbrev pub hold : ℕ → Option ℕ → Rule (Unit {0})
hold r None = done tt
hold r (Some n) = known n >>= put_register r

-- a machine that has just started goes on where one with this state was left
unfoldable pub restore : State → Rule (Unit {0})
restore state = do
  hold DISPLAY (name_in state.display)
  hold INPUT_SEMAPHORE (name_in state.input)
  hold TIMER_SEMAPHORE (name_in state.timer)
  cpu ← numbers
  set_numbers (record cpu { base = state.clock; display = is_some (name_in state.display); input = is_some (name_in state.input); timer = timer_at (is_some (name_in state.timer)) state.tick })

unfoldable pub begin : State → Rule (Unit {0})
begin state = do
  start
  restore state

-- ---- the state of a machine that is parked

-- the name that a value is, where the heap has its object, and 0 where it hasn't
abbrev pub name_kept : Heap → Value → ℕ
name_kept h (Int z) = 0
name_kept h (Ref n) = if is_some (h.at n) then n else 0

-- the name in a register that is in use
abbrev pub word_of : Heap → Bool → Value → ℕ
word_of h false v = 0
word_of h true v = name_kept h v

abbrev pub tick_or : Option ℕ → ℕ
tick_or None = 0
tick_or (Some tick) = tick

-- a tick is kept with its timer alone
abbrev pub tick_with : ℕ → Option ℕ → ℕ
tick_with zero tick = 0
tick_with (suc n) tick = tick_or tick

abbrev pub state_in : Heap → Machine → State
state_in h m = record {
  clock = clock m.cpu;
  display = word_of h m.cpu.display (m.regs DISPLAY);
  input = word_of h m.cpu.input (m.regs INPUT_SEMAPHORE);
  timer = word_of h (is_some m.cpu.timer) (m.regs TIMER_SEMAPHORE);
  tick = tick_with (word_of h (is_some m.cpu.timer) (m.regs TIMER_SEMAPHORE)) m.cpu.timer;
}

-- A name of it that no object of the kept heap has is not kept.
abbrev pub state_of : Machine → State
state_of m = state_in (kept m.heap no_roots) m
