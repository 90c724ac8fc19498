use Rattle.std.proofs.Common.{◌≡◌, ◌++◌, take}
use Rattle.st80_make.specs.Asked.{files_in, words_at, words_in}
use Rattle.st80_make.proofs.texts.read_in.Given as goal

abbrev pub invariant-each : goal.invariant-each
invariant-each l = words_in l.texts.items ≡ words_in l.fn.texts.items ++ files_in l.folder (words_at (take l.name-index l.names))
