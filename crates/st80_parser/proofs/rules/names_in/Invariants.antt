use Rattle.std.proofs.Common.{◌≡◌, ◌≤◌, ◌≢◌, ◌++◌, ◌∷◌, true, false, List, length}
use Rattle.st80_parser.specs.declared.kinds.Joint.TheVariants as joint
use Rattle.st80_parser.specs.Kinds.{joint_of, kind_at}
use Rattle.st80_parser.specs.Stands.{After, Binary, Body, Elements, First, Keywords, Marks, Names, Operand, Others, Place, Symbol, is_sent, run, state_of, takes_names}
use Rattle.st80_parser.specs.Written.{names}
use Rattle.st80_parser.proofs.rules.names_in.Given as goal

abbrev pub invariant-each : goal.invariant-each
invariant-each l = (l.fn.cursor.rest.now ≡ names l.found ++ l.cursor.rest.now) × (length l.cursor.rest.now ≤ length l.fn.cursor.rest.now)
    × ((xs : List Symbol) → run (Names ∷ xs) l.fn.cursor.rest.now ≡ run (Names ∷ xs) l.cursor.rest.now)

abbrev pub decreases-each : goal.decreases-each
decreases-each l = length l.cursor.rest.now
