use Rattle.std.proofs.Common.{◌≡◌, ◌≤◌, ◌++◌, ◌∷◌, List, length}
use Rattle.st80_parser.specs.Stands as stands
use Rattle.st80_parser.specs.Stands.{Symbol, run}
use Rattle.st80_parser.specs.Written.{elements}
use Rattle.st80_parser.proofs.arrays.+elements_in.Given as goal

abbrev pub invariant-each : goal.invariant-each
invariant-each l = (l.fn.cursor.rest.now ≡ elements l.found ++ l.cursor.rest.now) × (length l.cursor.rest.now ≤ length l.fn.cursor.rest.now)
    × ((xs : List Symbol) → run (stands.Elements l.depth ∷ xs) l.fn.cursor.rest.now ≡ run (stands.Elements l.depth ∷ xs) l.cursor.rest.now)

abbrev pub decreases-each : goal.decreases-each
decreases-each l = length l.cursor.rest.now

abbrev pub decreases-elements_in : goal.decreases-elements_in
decreases-elements_in l = l.depth
