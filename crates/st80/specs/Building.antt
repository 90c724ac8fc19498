-- What the commands `build` and `eval` do.
use Rattle.std.specs.Prelude.{◌≡◌, ℕ, List, Option, codes}
use Rattle.std.specs.Borrow.{Bor}
use Rattle.loom_words.specs.Command.{row_for}
use Rattle.loom_words.specs.Words.{IsRow}
use Rattle.loom_words.specs.declared.words.Command.{Command}
use Rattle.loom_words.specs.declared.words.TheConstants.{MOST_ENTRIES, MOST_ROOM, MOST_STEPS}
use Rattle.st80_files.specs.Inside.{file_in}
use Rattle.st80_files.specs.declared.files.Stated.{Stated}
use Rattle.st80_make.specs.Asked.{AreAsked}
use Rattle.st80_make.specs.Making.{IsMade}
use Rattle.st80_make.specs.declared.making.Building.{Building}
use Rattle.st80_words.specs.Rows.{null_text}
use Rattle.st80_words.specs.Sizes.{core_for}
use Rattle.st80_words.specs.declared.request.Sources.{Sources}
use Rattle.st80_words.specs.declared.rows.Unused.TheVariants as unused
use Rattle.st80.specs.Paths.{Files}
use Rattle.st80.specs.Runs.{files_for}

-- an image of the texts that were asked for
pub record IsBuildingOf (sources : Sources) (statements : Option (Bor (List ℕ))) (building : Building) : Type 0 where
  pub asked : AreAsked sources statements building.texts.items
  pub made : IsMade building

-- the files of a run that keeps nothing
abbrev pub files_with : List ℕ → List ℕ → Files
files_with image work = record { image = image; events = null_text unused.Events; work = work; saved = null_text unused.Saved; display = null_text unused.Display }

-- a run of the whole image in the largest room
pub record IsWhole (stated : Stated) (c : Command) : Type 0 where
  pub core : c.core ≡ core_for stated.bytes
  pub entries : c.entries ≡ MOST_ENTRIES
  pub room : c.room ≡ MOST_ROOM
  pub steps : c.steps ≡ MOST_STEPS

-- these words are the row of a run to its end of this image, which keeps nothing
pub record IsOnce (folder image : List ℕ) (words : List (List ℕ)) : Type 0 where
  pub command : Command
  pub stated : Stated
  pub row : IsRow words (row_for command)
  pub files : files_for command ≡ files_with image (file_in folder (codes "work"))
  pub numbers : IsWhole stated command
