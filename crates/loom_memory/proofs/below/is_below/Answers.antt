use Rattle.loom_memory.proofs.BelowLaws.{below-is}
use Rattle.loom_memory.proofs.below.is_below.Goals as goal

pub returns : goal.returns
returns c = below-is c.args.long c.args.next c.either.result c.either.ensures
