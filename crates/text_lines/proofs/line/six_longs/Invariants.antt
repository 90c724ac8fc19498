use Rattle.std.proofs.Common.{◌≡◌, take, length}
use Rattle.text_lines.specs.Grammar.{each_of}
use Rattle.text_lines.specs.Inside.{in_front}
use Rattle.text_lines.specs.Parts.{parts_behind, long_of}
use Rattle.text_lines.proofs.line.six_longs.Given as goal

abbrev pub invariant-loop-i : goal.invariant-loop-i
invariant-loop-i l = record {
  read : each_of long_of (parts_behind l.fn.parts.tail.now) ≡ in_front (take l.i l.longs) (each_of long_of (parts_behind l.parts.tail.now));
  many : length l.longs ≡ 6;
}
