use Rattle.std.proofs.Common.{◌≡◌, None, map, take}
use Rattle.std.specs.List.{AllPairs}
use Rattle.st80_program.specs.Understood.{AreApart, home_of, homes_of}
use Rattle.st80_program.proofs.trees.method_trees.Given as goal

abbrev pub invariant-each : goal.invariant-each
invariant-each l =
    (homes_of l.trees.methods.items ≡ map home_of (take l.written-index l.program.methods.items))
    × AllPairs AreApart l.trees.methods.items
    × (l.trees.start ≡ None)
