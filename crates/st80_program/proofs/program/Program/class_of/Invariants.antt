use Rattle.std.proofs.Common.{◌≡◌, ◌≢◌, All, take}
use Rattle.st80_program.proofs.program.Program.class_of.Given as goal

abbrev pub invariant-each : goal.invariant-each
invariant-each l = (l.number ≡ l.class-index) × All (λ class. class.name.items ≢ l.name) (take l.class-index l.self.classes.items)
