use Rattle.std.proofs.Common.{◌≡◌, ◌++◌, take}
use Rattle.st80_make.specs.Asked.{words_at, words_in}
use Rattle.st80_make.proofs.texts.read_all.Given as goal

abbrev pub invariant-each : goal.invariant-each
invariant-each l = words_in l.texts.items ≡ words_in l.fn.texts.items ++ words_at (take l.word-index l.words)
