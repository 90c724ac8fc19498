use Rattle.std.proofs.Common.{◌≡◌, length}
use Rattle.text_lines.specs.Grammar.{each_of}
use Rattle.text_lines.specs.Inside.{in_front}
use Rattle.text_lines.specs.Parts.{parts_behind, value_of}
use Rattle.text_lines.proofs.contents.all_values.Given as goal

abbrev pub invariant-each : goal.invariant-each
invariant-each l = each_of value_of (parts_behind l.fn.parts.tail.now) ≡ in_front l.values (each_of value_of (parts_behind l.parts.tail.now))

abbrev pub decreases-each : goal.decreases-each
decreases-each l = length (parts_behind l.parts.tail.now)
