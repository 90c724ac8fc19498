use Rattle.std.proofs.Common.{◌≡◌, ◌≤◌, ◌≢◌, ◌++◌, ◌∷◌, true, false, List, length}
use Rattle.st80_parser.specs.declared.kinds.Joint.TheVariants as joint
use Rattle.st80_parser.specs.Kinds.{joint_of, kind_at}
use Rattle.st80_parser.specs.Stands.{After, Binary, Body, Elements, First, Keywords, Marks, Names, Operand, Others, Place, Symbol, is_sent, run, state_of, takes_names}
use Rattle.st80_parser.specs.Written.{steps}
use Rattle.st80_parser.proofs.expressions.Grammar.body.Given as goal

abbrev pub invariant-each : goal.invariant-each
invariant-each g l = (l.fn.cursor.rest.now ≡ steps l.steps ++ l.cursor.rest.now) × (length l.cursor.rest.now ≤ length l.fn.cursor.rest.now)
    × ((xs : List Symbol) → run (Body l.self.depth ∷ xs) l.fn.cursor.rest.now ≡ run (Body l.self.depth ∷ xs) l.cursor.rest.now)

abbrev pub decreases-each : goal.decreases-each
decreases-each g l = length l.cursor.rest.now
