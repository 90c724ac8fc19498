-- A command that was read: its row, and its limits.
use Rattle.std.specs.Prelude.{◌≡◌, ◌≤◌, ℕ, List}
use Rattle.loom_gen.specs.declared.generator.TheConstants.{LAST_NUMBER}
use Rattle.loom_words.specs.Words.{MakeRow, Paths, Row, ToAssemble, ToList, ToMake, ToRun, ToTrace, make_of, paths_of, row_of, trace_row_of, verb_of}
use Rattle.loom_words.specs.declared.words.Asked.{Asked}
use Rattle.loom_words.specs.declared.words.Asked.TheVariants.{Assemble, List as Listing, Make, Run, Trace}
use Rattle.loom_words.specs.declared.words.Command.{Command}
use Rattle.loom_words.specs.declared.words.Conversion.{Conversion}
use Rattle.loom_words.specs.declared.words.Making.{Making}
use Rattle.loom_words.specs.declared.words.TheConstants.{LEAST_CORE, MOST_CORE, LEAST_ENTRIES, MOST_ENTRIES, LEAST_ROOM, MOST_ROOM, MOST_STEPS}

abbrev pub row_for : Command → Row
row_for c = record {
  image = c.image.now;
  events = c.events.now;
  work = c.work.now;
  saved = c.saved.now;
  display = c.display.now;
  core = c.core;
  entries = c.entries;
  room = c.room;
  steps = c.steps;
}

-- its numbers are within the limits of a run
pub record HasLimits (c : Command) : Type 0 where
  pub core : (LEAST_CORE ≤ c.core) × (c.core ≤ MOST_CORE)
  pub entries : (LEAST_ENTRIES ≤ c.entries) × (c.entries ≤ MOST_ENTRIES)
  pub room : (LEAST_ROOM ≤ c.room) × (c.room ≤ MOST_ROOM)
  pub steps : c.steps ≤ MOST_STEPS

abbrev pub make_for : Making → MakeRow
make_for m = record { number = m.number; file = m.file.now }

abbrev pub paths_for : Conversion → Paths
paths_for c = record { source = c.source.now; work = c.work.now; target = c.target.now }

-- what was read is what these words ask for, within its limits
abbrev pub IsAsked : List (List ℕ) → Asked → Type 0
IsAsked words (Run c) = (verb_of words ≡ ToRun) × (row_for c ≡ row_of words) × HasLimits c
IsAsked words (Make m) = (verb_of words ≡ ToMake) × (make_for m ≡ make_of words) × (m.number ≤ LAST_NUMBER)
IsAsked words (Listing c) = (verb_of words ≡ ToList) × (paths_for c ≡ paths_of words)
IsAsked words (Assemble c) = (verb_of words ≡ ToAssemble) × (paths_for c ≡ paths_of words)
IsAsked words (Trace c) = (verb_of words ≡ ToTrace) × (row_for c ≡ trace_row_of words) × HasLimits c
