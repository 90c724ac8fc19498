use Rattle.work_space.proofs.BlockLaws.{small-size}
use Rattle.work_space.proofs.size_class.block_bytes.Goals as goal

pub returns-clause-size : goal.returns-clause-size
returns-clause-size c = (small-size c.args.c c.requires).0

pub returns-clause-most : goal.returns-clause-most
returns-clause-most c = (small-size c.args.c c.requires).1
