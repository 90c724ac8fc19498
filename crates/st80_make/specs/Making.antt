-- What an image is made of.
use Rattle.std.specs.Prelude.{List, length}
use Rattle.image_format.specs.Valid.{IsValid}
use Rattle.st80_build.specs.declared.image.Made.{Made}
use Rattle.st80_program.specs.Programs.{IsProgram}
use Rattle.st80_program.specs.Understood.{AreOf}
use Rattle.st80_program.specs.declared.program.Program.{Program}
use Rattle.st80_program.specs.declared.trees.Trees.{Trees}
use Rattle.st80_make.specs.declared.making.Building.{Building}
use Rattle.st80_make.specs.declared.texts.Text.{Text}

-- the texts are a program, each of its methods has its tree, and what was made is an image
pub record IsMadeOf (texts : List Text) (made : Made) : Type 0 where
  pub program : Program
  pub trees : Trees
  pub read : IsProgram (length texts) program
  pub resolved : AreOf program trees
  pub valid : IsValid made.image

-- an image is made of the texts that it stands with
abbrev pub IsMade : Building → Type 0
IsMade building = IsMadeOf building.texts.items building.made
