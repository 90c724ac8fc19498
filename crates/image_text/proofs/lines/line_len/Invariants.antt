use Rattle.std.proofs.Common.{◌≤◌}
use Rattle.std.specs.List.{position_or_len}
use Rattle.image_text.specs.Lines.{is_newline}
use Rattle.image_text.proofs.lines.line_len.Given as goal

abbrev pub invariant-loop-i : goal.invariant-loop-i
invariant-loop-i l = l.from ≤ position_or_len is_newline l.bytes → l.i ≤ position_or_len is_newline l.bytes
