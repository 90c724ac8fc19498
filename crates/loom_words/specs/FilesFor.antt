-- The table of the files of a command, as the code has it.
use Rattle.loom_words.specs.Files.{Files}
use Rattle.loom_words.specs.declared.files.CommandFiles.{CommandFiles}

abbrev pub files_for : CommandFiles → Files
files_for files = record { roles = files.roles.now; vault = files.vault; keeps_inputs = files.keeps_inputs }
