use Rattle.std.proofs.Common.{◌≡◌, length}
use Rattle.text_lines.specs.Grammar.{each_of}
use Rattle.text_lines.specs.Inside.{in_front}
use Rattle.text_lines.specs.Parts.{parts_behind, word_of}
use Rattle.text_lines.proofs.contents.all_words.Given as goal

abbrev pub invariant-each : goal.invariant-each
invariant-each l = each_of word_of (parts_behind l.fn.parts.tail.now) ≡ in_front l.words (each_of word_of (parts_behind l.parts.tail.now))

abbrev pub decreases-each : goal.decreases-each
decreases-each l = length (parts_behind l.parts.tail.now)
