use Rattle.checkpoint.proofs.Losses.{torn-none}
use Rattle.checkpoint.proofs.NotedLaws.{lose-step}
use Rattle.checkpoint.proofs.losing.lose.Goals as goal

pub loop-range-init : goal.loop-range-init
loop-range-init c = torn-none _ _

pub loop-range-preserved : goal.loop-range-preserved
loop-range-preserved c = lose-step c.args.ranges.now c.loop-range.range-index _ _ _ _ _ c.loop-range-test.true c.loop-range.invariant c.lose_one.ensures
