-- Heads of both versions: what they state, their bytes, and how they are read.
use Rattle.std.specs.Prelude.{ℕ, ◌%◌, ◌&&◌, ◌||◌, ◌==◌, nat_lt, nat_le, Bool, List, [], ◌++◌, codes, Result, Ok, if◌then◌else◌}
use Rattle.std.specs.Int.{w32}
use Rattle.long_names.specs.Record.{four_bytes}
use Rattle.image_format.specs.declared.fault.Halt.{Halt}
use Rattle.image_format.specs.declared.head.TheConstants.{VERSION, FEWEST_OBJECTS, MOST_OBJECTS, LOWEST_NEXT}
use Rattle.image_format.specs.declared.opening.TheConstants.{STATE_VERSION, LOOM}
use Rattle.image_format.specs.declared.opening.Opening.{Opening}
use Rattle.image_format.specs.declared.opening.State.{State}
use Rattle.image_format.specs.declared.opening.ImageHead.{ImageHead}
use Rattle.image_format.specs.Reading.{◌>>=◌, broken, number_at}

-- ---- their bytes

-- the state of version 1
abbrev pub no_state : State
no_state = record { clock = 0; display = 0; input = 0; timer = 0; tick = 0 }

-- clock, display, input, timer and tick
abbrev pub state_text : State → List ℕ
state_text s = four_bytes s.clock ++ (four_bytes s.display ++ (four_bytes s.input ++ (four_bytes s.timer ++ four_bytes s.tick)))

-- LOOM, the version, the number of objects, and the next name
abbrev pub opening_text : Opening → List ℕ
opening_text o = codes "LOOM" ++ (four_bytes o.version ++ (four_bytes o.objects ++ four_bytes o.next))

-- the head of version 2 has the state too
abbrev pub stated_text : ImageHead → List ℕ
stated_text h = if h.opening.version == STATE_VERSION then state_text h.state else []

abbrev pub version_head_text : ImageHead → List ℕ
version_head_text h = opening_text h.opening ++ stated_text h

-- ---- their tests

-- rule 1: the bytes are LOOM
abbrev pub is_loom : ℕ → Bool
is_loom word = word == LOOM

-- rule 2: the version is 1 or 2
abbrev pub is_version : ℕ → Bool
is_version n = n == VERSION || n == STATE_VERSION

-- rule 3: the number of objects, and the next name
abbrev pub is_count : ℕ → Bool
is_count n = nat_le FEWEST_OBJECTS n && nat_le n MOST_OBJECTS

abbrev pub is_next : ℕ → Bool
is_next n = nat_le LOWEST_NEXT n && n % 2 == 0

-- rule 13: a name of the state is below the next name, or 0, and without a timer there is no tick
abbrev pub is_state_word : ℕ → ℕ → Bool
is_state_word next word = word == 0 || (word % 2 == 0 && nat_lt word next)

abbrev pub is_tick : ℕ → ℕ → Bool
is_tick timer tick = tick == 0 || nat_lt 0 timer

-- ---- reading them

-- a long word, which breaks this rule where it doesn't pass
unfoldable pub checked_at : ℕ → (ℕ → Bool) → List ℕ → Result (ℕ × List ℕ) Halt
checked_at rule test bytes = do
  number ← number_at w32 bytes
  if test number.0 then Ok number else broken rule bytes

unfoldable pub opening_at : List ℕ → Result (Opening × List ℕ) Halt
opening_at bytes = do
  loom ← checked_at 1 is_loom bytes
  version ← checked_at 2 is_version loom.1
  objects ← checked_at 3 is_count version.1
  next ← checked_at 3 is_next objects.1
  Ok (record { version = version.0; objects = objects.0; next = next.0 }, next.1)

unfoldable pub state_at : ℕ → List ℕ → Result (State × List ℕ) Halt
state_at next bytes = do
  clock ← number_at w32 bytes
  display ← checked_at 13 (is_state_word next) clock.1
  input ← checked_at 13 (is_state_word next) display.1
  timer ← checked_at 13 (is_state_word next) input.1
  tick ← checked_at 13 (is_tick timer.0) timer.1
  Ok (record { clock = clock.0; display = display.0; input = input.0; timer = timer.0; tick = tick.0 }, tick.1)

-- version 1 has no state
abbrev pub version_state_at : Opening → List ℕ → Result (State × List ℕ) Halt
version_state_at o bytes = if o.version == STATE_VERSION then state_at o.next bytes else Ok (no_state, bytes)

unfoldable pub head_at : List ℕ → Result (ImageHead × List ℕ) Halt
head_at bytes = do
  opening ← opening_at bytes
  state ← version_state_at opening.0 opening.1
  Ok (record { opening = opening.0; state = state.0 }, state.1)
