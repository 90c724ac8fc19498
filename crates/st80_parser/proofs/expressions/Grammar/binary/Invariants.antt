use Rattle.std.proofs.Common.{◌≡◌, ◌≤◌, ◌≢◌, ◌++◌, ◌∷◌, true, false, List, length}
use Rattle.st80_parser.specs.declared.kinds.Joint.TheVariants as joint
use Rattle.st80_parser.specs.Kinds.{joint_of, kind_at}
use Rattle.st80_parser.specs.Stands.{After, Binary, Body, Elements, First, Keywords, Marks, Names, Operand, Others, Place, Symbol, is_sent, run, state_of, takes_names}
use Rattle.st80_parser.specs.Written.{expr}
use Rattle.st80_parser.proofs.expressions.Grammar.binary.Given as goal

abbrev pub invariant-each : goal.invariant-each
invariant-each g l = (l.fn.cursor.rest.now ≡ expr l.found ++ l.cursor.rest.now) × (length l.cursor.rest.now ≤ length l.fn.cursor.rest.now)
    × ((place : Place) (xs : List Symbol) → place ≢ Operand → run (First place l.self.depth ∷ xs) l.fn.cursor.rest.now ≡ run (After (state_of l.found) place l.self.depth ∷ xs) l.cursor.rest.now)
    × (is_sent (state_of l.found) ≡ false)
    × (joint_of (kind_at l.cursor.rest.now) ≢ joint.Name)

abbrev pub decreases-each : goal.decreases-each
decreases-each g l = length l.cursor.rest.now
