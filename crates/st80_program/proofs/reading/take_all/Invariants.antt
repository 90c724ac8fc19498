use Rattle.std.proofs.Common.{ℕ, ◌<◌, length}
use Rattle.st80_program.specs.Programs.{IsNext, IsProgram}
use Rattle.st80_program.proofs.reading.take_all.Given as goal

abbrev pub invariant-each : goal.invariant-each
invariant-each l =
    ((texts : ℕ) → IsProgram texts l.fn.program → l.source < texts → IsProgram texts l.program)
    × IsNext (length l.program.classes.items) l.next
