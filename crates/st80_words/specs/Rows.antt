-- The rows of words for the program `loom`: which files may not be one, and the spellings of the null device for those that nobody wants.
use Rattle.std.specs.Prelude.{◌≡◌, ◌≢◌, List, codes, ℕ}
use Rattle.loom_words.specs.declared.words.Command.{Command}
use Rattle.loom_words.specs.declared.words.Conversion.{Conversion}
use Rattle.st80_words.specs.declared.rows.Unused.{Unused}
use Rattle.st80_words.specs.declared.rows.Unused.TheVariants.{Display, Events, Saved}

-- the files of a run, but for its image
pub record HasFilesApart (c : Command) : Type 0 where
  pub work_apart : (c.work.now ≢ c.events.now) × (c.work.now ≢ c.saved.now) × (c.work.now ≢ c.display.now)
  pub display_apart : (c.display.now ≢ c.events.now) × (c.display.now ≢ c.saved.now)

-- and its image
pub record HasImageApart (c : Command) : Type 0 where
  pub work : c.work.now ≢ c.image.now
  pub display : c.display.now ≢ c.image.now

-- and its vault, which is this
pub record HasVaultApart (vault : List ℕ) (c : Command) : Type 0 where
  pub events : vault ≢ c.events.now
  pub work : vault ≢ c.work.now
  pub saved : vault ≢ c.saved.now
  pub display : vault ≢ c.display.now

-- a role that has no file
abbrev pub null_text : Unused → List ℕ
null_text Events = codes "/dev/null"
null_text Saved = codes "/dev/../dev/null"
null_text Display = codes "/dev/../dev/../dev/null"
