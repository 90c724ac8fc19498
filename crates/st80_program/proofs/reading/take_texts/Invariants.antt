use Rattle.std.proofs.Common.{length}
use Rattle.st80_program.specs.Programs.{IsProgram}
use Rattle.st80_program.proofs.reading.take_texts.Given as goal

abbrev pub invariant-each : goal.invariant-each
invariant-each l = IsProgram (length l.texts) l.program
