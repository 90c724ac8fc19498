use Rattle.std.proofs.Common.{◌≡◌, length}
use Rattle.text_lines.specs.Grammar.{each_of}
use Rattle.text_lines.specs.Inside.{in_front}
use Rattle.text_lines.specs.Parts.{parts_behind, byte_of}
use Rattle.text_lines.proofs.contents.all_bytes.Given as goal

abbrev pub invariant-each : goal.invariant-each
invariant-each l = each_of byte_of (parts_behind l.fn.parts.tail.now) ≡ in_front l.bytes (each_of byte_of (parts_behind l.parts.tail.now))

abbrev pub decreases-each : goal.decreases-each
decreases-each l = length (parts_behind l.parts.tail.now)
