use Rattle.std.proofs.Common.{string_bytes}
use Rattle.st80_complain.specs.Said.{Begins}
use Rattle.st80_complain.proofs.words.put_indent.Given as goal

abbrev pub invariant-each : goal.invariant-each
invariant-each l = Begins (string_bytes l.fn.out) (string_bytes l.out)
