-- The state with which a run begins, and the one that it leaves.
use Rattle.std.specs.Prelude.{zero, suc, ◌≡◌, ℕ, ◌^◌, ◌%◌, ◌==◌, ◌&&◌, nat_lt, Bool, true, false, is_some, if◌then◌else◌}
use Rattle.long_names.specs.declared.value.Value.{Value}
use Rattle.long_names.specs.declared.value.Value.TheVariants.{Int, Ref}
use Rattle.long_names.specs.Names.{IsName, IsLongName}
use Rattle.long_names.specs.Heap.{Heap, Has}
use Rattle.long_names.specs.Kept.{kept, no_roots}
use Rattle.long_names.specs.State.{INPUT_SEMAPHORE, TIMER_SEMAPHORE, DISPLAY}
use Rattle.image_format.specs.declared.opening.State.{State as Words}
use Rattle.object_memory.specs.Told.{Told}
use Rattle.blue_model.specs.declared.cpu.Cpu.{Cpu}
use Rattle.blue_model.specs.State.{State, tick_or}
use Rattle.blue_model.specs.Devices.{clock}

-- the state that an image states, as the model has it
abbrev pub model_state : Words → State
model_state s = record { clock = s.clock; display = s.display; input = s.input; timer = s.timer; tick = s.tick }

-- ---- the beginning

-- no lookup is cached
abbrev pub IsUncached : Told → Type 0
IsUncached t = (class selector method : ℕ) → t.cache.rows class selector method ≡ false

-- A word is 0, or a name whose object is kept with no roots: it is known, or held by one that is kept. So it stays while a start reads
-- others, over a memory in which nothing is cached.
abbrev pub KeepsWord : Told → ℕ → Type 0
KeepsWord t zero = Unit {0}
KeepsWord t (suc n) = IsName (suc n) × IsUncached t × Has (kept t.heap no_roots) (suc n)

-- a run may begin with this state
pub record KeepsState (t : Told) (s : State) : Type 0 where
  pub display : KeepsWord t s.display
  pub input : KeepsWord t s.input
  pub timer : KeepsWord t s.timer

-- ---- the end

-- a name is an even long word above 0
abbrev pub is_long_name : ℕ → Bool
is_long_name n = (n % 2 == 0) && (nat_lt 0 n && nat_lt n (2 ^ 32))

-- the name in a register that is in use
abbrev pub word_held : Bool → Value → ℕ
word_held false v = 0
word_held true (Int z) = 0
word_held true (Ref n) = if is_long_name n then n else 0

-- What registers and numbers say of the state, as it stands: each name, whether its object will be kept or not.
abbrev pub state_held : (ℕ → Value) → Cpu → State
state_held regs cpu = record {
  clock = clock cpu;
  display = word_held cpu.display (regs DISPLAY);
  input = word_held cpu.input (regs INPUT_SEMAPHORE);
  timer = word_held (is_some cpu.timer) (regs TIMER_SEMAPHORE);
  tick = tick_or cpu.timer;
}

-- a word whose object a heap has, and 0 where it hasn't
abbrev pub word_left : Heap → ℕ → ℕ
word_left h n = if is_some (h.at n) then n else 0

-- what a heap leaves of a state: a tick goes with its timer
abbrev pub state_left : Heap → State → State
state_left h s = record {
  clock = s.clock;
  display = word_left h s.display;
  input = word_left h s.input;
  timer = word_left h s.timer;
  tick = if is_some (h.at s.timer) then s.tick else 0;
}

-- all objects have names of 32 bits
abbrev pub HasLongNames : Heap → Type 0
HasLongNames h = (n : ℕ) → Has h n → IsLongName n
