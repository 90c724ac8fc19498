use Rattle.st80_scope.proofs.nodes.+node.Given as goal

abbrev pub decreases-node : goal.decreases-node
decreases-node l = l.depth
