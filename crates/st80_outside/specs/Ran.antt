-- What was run, and how it ended.
use Rattle.std.specs.Prelude.{List, ℕ}
use Rattle.loom_words.specs.Words.{texts_of}
use Rattle.loom_words.specs.declared.status.Status.{Status}
use Rattle.st80_outside.specs.declared.running.Ran.{Ran}

unfoldable pub words_of : Ran → List (List ℕ)
words_of ran = texts_of ran.row.items

unfoldable pub status_of : Ran → Status
status_of ran = ran.status
