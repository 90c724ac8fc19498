use Rattle.std.proofs.Common.{ℕ, ◌<◌, IsTrue, get_or}
use Rattle.std.specs.BTreeSet.{contains}
use Rattle.std.specs.Ordering.{nat_cmp}
use Rattle.st80_program.specs.declared.trees.Tree.{Tree}
use Rattle.st80_program.specs.Understood.{HasSelector}
use Rattle.st80_program.proofs.trees.selectors_of.Given as goal

abbrev pub invariant-each : goal.invariant-each
invariant-each l =
    ((n : ℕ) → IsTrue (contains nat_cmp l.has n) → HasSelector l.methods n)
    × ((k : ℕ) (d : Tree) → k < l.tree-index → IsTrue (contains nat_cmp l.has (get_or l.methods k d).selector))
