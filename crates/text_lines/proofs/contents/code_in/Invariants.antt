use Rattle.std.proofs.Common.{◌≡◌, length}
use Rattle.text_lines.specs.Grammar.{code_of}
use Rattle.text_lines.specs.Inside.{code_in_front}
use Rattle.text_lines.specs.Parts.{parts_behind}
use Rattle.text_lines.proofs.contents.code_in.Given as goal

abbrev pub invariant-each : goal.invariant-each
invariant-each l = code_of (parts_behind l.fn.parts.tail.now) ≡ code_in_front l.literals (code_of (parts_behind l.parts.tail.now))

abbrev pub decreases-each : goal.decreases-each
decreases-each l = length (parts_behind l.parts.tail.now)
