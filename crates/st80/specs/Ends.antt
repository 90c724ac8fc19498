-- How a run ends.
use Rattle.std.specs.Prelude.{◌≡◌}
use Rattle.loom_words.specs.Status.{code_of}
use Rattle.loom_words.specs.declared.status.Status.{Status}
use Rattle.st80_files.specs.Codes.{number_of}
use Rattle.st80_files.specs.declared.codes.Code.{Code}
use Rattle.st80_outside.specs.Ran.{status_of}
use Rattle.st80.specs.declared.telling.Done.{Done}

-- it is the code that `loom` has for some status
abbrev pub IsLoomCode : Code → Type 0
IsLoomCode code = (status : Status) × (number_of code ≡ code_of status)

-- the code is that which `loom` has for how this run ended
abbrev pub IsEndOf : Done → Type 0
IsEndOf done = number_of done.code ≡ code_of (status_of done.ran)
