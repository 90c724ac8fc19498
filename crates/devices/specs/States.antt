-- The state that a machine goes on with, as a call is handed it.
use Rattle.std.specs.Prelude.{ℕ, Option, Some, None}
use Rattle.long_names.specs.Heap.{Heap, Has}
use Rattle.long_names.specs.Kept.{kept, no_roots}
use Rattle.blue_model.specs.State.{State}

-- the word of the state that a name is, 0 for none
abbrev pub word_by : Option ℕ → ℕ
word_by None = 0
word_by (Some n) = n

abbrev pub state_by : ℕ → Option ℕ → Option ℕ → Option ℕ → ℕ → State
state_by clock display input timer tick = record { clock = clock; display = word_by display; input = word_by input; timer = word_by timer; tick = tick }

-- The name, where there is one, is that of an object which is kept with no roots: it is known, or held by one that is kept. So it stays
-- while others are loaded.
abbrev pub StaysThere : Heap → Option ℕ → Type 0
StaysThere h None = Unit {0}
StaysThere h (Some n) = Has (kept h no_roots) n
