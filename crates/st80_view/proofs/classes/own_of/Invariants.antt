use Rattle.st80_view.proofs.OwnLaws.{HasNoneBelow}
use Rattle.st80_view.proofs.classes.own_of.Given as goal

abbrev pub invariant-loop-home : goal.invariant-loop-home
invariant-loop-home l = HasNoneBelow l.homes l.class l.selector l.home-index
