-- The row of words of a run, by what runs, and of a conversion, by its way.
use Rattle.std.specs.Prelude.{[], List, codes, ℕ}
use Rattle.loom_words.specs.Command.{row_for}
use Rattle.loom_words.specs.Kept.{IsGuard, IsResume}
use Rattle.loom_words.specs.Words.{IsRow, Row}
use Rattle.loom_words.specs.declared.words.Command.{Command}
use Rattle.st80.specs.declared.converting.Way.{Way}
use Rattle.st80.specs.declared.converting.Way.TheVariants.{ToImage, ToText}
use Rattle.st80.specs.declared.rows.Source.{Source}
use Rattle.st80.specs.declared.rows.Source.TheVariants.{Guarded, Image, Kept}

-- what a vault keeps has no image but the one in it
abbrev pub imageless : Row → Row
imageless row = record {
  image = [];
  events = row.events;
  work = row.work;
  saved = row.saved;
  display = row.display;
  core = row.core;
  entries = row.entries;
  room = row.room;
  steps = row.steps;
}

-- these words are a right row of such a run, of these files and numbers
abbrev pub IsRowOf : Source → Command → List (List ℕ) → Type 0
IsRowOf (Image image) c words = IsRow words (row_for c)
IsRowOf (Guarded image vault) c words = IsGuard words (row_for c) vault.now
IsRowOf (Kept vault) c words = IsResume words (imageless (row_for c)) vault.now

-- the first word of a row for this way
abbrev pub verb_for : Way → List ℕ
verb_for ToText = codes "list"
verb_for ToImage = codes "asm"
