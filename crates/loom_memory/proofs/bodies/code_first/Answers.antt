use Rattle.std.proofs.Common.{arith}
use Rattle.loom_memory.proofs.BodyLaws.{short-literals}
use Rattle.loom_memory.proofs.bodies.code_first.Goals as goal

pub returns : goal.returns
returns c = let count = short-literals c.args.header (omega arith) in omega arith
