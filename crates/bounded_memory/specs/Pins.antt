-- What the kept sizes of pinned objects say of a row.
use Rattle.std.specs.Prelude.{ℕ, ◌+◌, ◌==◌, ◌||◌, Bool, false, if◌then◌else◌, Option, Some, None, slice_index_or}
use Rattle.long_names.specs.declared.limits.TheConstants.{ENTRIES_OF_A_CALL}
use Rattle.bounded_memory.specs.declared.pins.Pin.{Pin}
use Rattle.bounded_memory.specs.declared.pins.Pins.{Pins}

-- what a slot pins
abbrev pub pin_at : Pins → ℕ → Option Pin
pin_at pins = λ i. slice_index_or pins.slots i None

-- the pinned object has this name
abbrev pub is_pin : ℕ → Option Pin → Bool
is_pin n None = false
is_pin n (Some p) = p.name == n

-- the second is pinned, and the first has its name
abbrev pub is_same_pin : Option Pin → Option Pin → Bool
is_same_pin a None = false
is_same_pin a (Some p) = is_pin p.name a

-- its words, or its entries, unless they are counted
abbrev pub words_unless : Option Pin → Bool → ℕ
words_unless None counted = 0
words_unless (Some p) counted = if counted then 0 else p.size.words

abbrev pub entries_unless : Option Pin → Bool → ℕ
entries_unless None counted = 0
entries_unless (Some p) counted = if counted then 0 else p.size.entries

-- the words of an object and of the distinct pinned objects
abbrev pub words_with : Pins → ℕ → ℕ → ℕ
words_with pins object words =
    words
    + words_unless (pin_at pins 0) (is_pin object (pin_at pins 0))
    + words_unless (pin_at pins 1) (is_pin object (pin_at pins 1) || is_same_pin (pin_at pins 0) (pin_at pins 1))
    + words_unless (pin_at pins 2) (is_pin object (pin_at pins 2) || (is_same_pin (pin_at pins 0) (pin_at pins 2) || is_same_pin (pin_at pins 1) (pin_at pins 2)))

-- the entries of a call and of the distinct pinned objects
abbrev pub entries_with : Pins → ℕ
entries_with pins =
    ENTRIES_OF_A_CALL
    + entries_unless (pin_at pins 0) false
    + entries_unless (pin_at pins 1) (is_same_pin (pin_at pins 0) (pin_at pins 1))
    + entries_unless (pin_at pins 2) (is_same_pin (pin_at pins 0) (pin_at pins 2) || is_same_pin (pin_at pins 1) (pin_at pins 2))
