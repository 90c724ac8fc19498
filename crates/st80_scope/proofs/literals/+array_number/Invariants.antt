use Rattle.st80_scope.proofs.literals.+array_number.Given as goal

abbrev pub decreases-array_number : goal.decreases-array_number
decreases-array_number l = l.depth
