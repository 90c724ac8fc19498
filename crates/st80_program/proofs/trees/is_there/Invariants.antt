use Rattle.std.proofs.Common.{All, take}
use Rattle.st80_program.specs.Understood.{AreApart}
use Rattle.st80_program.proofs.trees.is_there.Given as goal

abbrev pub invariant-each : goal.invariant-each
invariant-each l = All (λ other. AreApart other l.tree) (take l.other-index l.methods)
