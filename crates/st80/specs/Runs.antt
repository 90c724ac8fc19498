-- What a run of the program is, by what asks for it.
use Rattle.std.specs.Prelude.{◌≡◌, List, codes, unwrap_or, ℕ}
use Rattle.loom_words.specs.Words.{Paths as Conversion, ArePaths}
use Rattle.loom_words.specs.Words.{MakeRow, IsMake}
use Rattle.loom_words.specs.declared.words.Command.{Command}
use Rattle.loom_words.specs.declared.words.TheConstants.{MOST_ENTRIES}
use Rattle.st80_looks.specs.declared.drawing.Drawing.{Drawing}
use Rattle.st80_words.specs.Sizes.{core_for, room_for}
use Rattle.st80_words.specs.declared.request.Running.{Running}
use Rattle.st80_files.specs.Inside.{file_in}
use Rattle.st80_files.specs.declared.files.Stated.{Stated}
use Rattle.st80.specs.Paths.{AreFiles, Files, IsReadBy, IsWrittenBy}
use Rattle.st80.specs.Rows.{IsRowOf, verb_for}
use Rattle.st80.specs.declared.converting.Way.{Way}
use Rattle.st80.specs.declared.rows.Source.{Source}

abbrev pub files_for : Command → Files
files_for c = record { image = c.image.now; events = c.events.now; work = c.work.now; saved = c.saved.now; display = c.display.now }

-- the numbers of a run: those that were asked for, and else those by what its image states
pub record HasNumbers (running : Running) (stated : Stated) (c : Command) : Type 0 where
  pub core : c.core ≡ unwrap_or running.sizes.core (core_for stated.bytes)
  pub entries : c.entries ≡ unwrap_or running.sizes.entries MOST_ENTRIES
  pub room : c.room ≡ unwrap_or running.sizes.room (room_for stated.objects)
  pub steps : c.steps ≡ running.steps

-- these words are the row of a run with the files and numbers that were asked for
pub record IsRunOf (folder : List ℕ) (source : Source) (running : Running) (words : List (List ℕ)) : Type 0 where
  pub command : Command
  pub drawing : Drawing
  pub stated : Stated
  pub row : IsRowOf source command words
  pub files : AreFiles folder source running drawing (files_for command)
  pub numbers : HasNumbers running stated command

-- these words are the row of a conversion of the file that is read into the one that is written
pub record IsBetween (folder : List ℕ) (way : Way) (read written : List ℕ) (words : List (List ℕ)) : Type 0 where
  pub paths : Conversion
  pub row : ArePaths (verb_for way) words paths
  pub source : IsReadBy folder (codes "read") read paths.source
  pub work : paths.work ≡ file_in folder (codes "work")
  pub target : IsWrittenBy folder (codes "written") written paths.target

-- these words are the row of a making of this image
pub record IsMaking (folder : List ℕ) (asked : ℕ) (written : List ℕ) (words : List (List ℕ)) : Type 0 where
  pub made : MakeRow
  pub row : IsMake words made
  pub number : made.number ≡ asked
  pub file : IsWrittenBy folder (codes "made") written made.file
