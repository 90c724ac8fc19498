-- The sizes of a run, where nothing is asked for, and their limits.
use Rattle.std.specs.Prelude.{ℕ, ◌*◌, ◌+◌, ◌≤◌, max, min}
use Rattle.loom_words.specs.declared.words.TheConstants.{LEAST_CORE, MOST_CORE, LEAST_ENTRIES, MOST_ENTRIES, LEAST_ROOM, MOST_ROOM}
use Rattle.st80_words.specs.declared.defaults.Sizes.{Sizes}
use Rattle.st80_words.specs.declared.defaults.TheConstants.{MORE_ROOM, SMALLEST_CORE}

-- the words of a core for an image of so many bytes: twice its words of 16 bits
abbrev pub core_for : ℕ → ℕ
core_for bytes = min MOST_CORE (max SMALLEST_CORE bytes)

-- the room for an image of so many objects
abbrev pub room_for : ℕ → ℕ
room_for objects = min MOST_ROOM (2 * objects + MORE_ROOM)

-- what a run is made with is within the limits of the program `loom`
pub record HasSizes (sizes : Sizes) : Type 0 where
  pub core : (LEAST_CORE ≤ sizes.core) × (sizes.core ≤ MOST_CORE)
  pub entries : (LEAST_ENTRIES ≤ sizes.entries) × (sizes.entries ≤ MOST_ENTRIES)
  pub room : (LEAST_ROOM ≤ sizes.room) × (sizes.room ≤ MOST_ROOM)
