use Rattle.std.proofs.Common.{arith}
use Rattle.loom_memory.proofs.AddLaws.{room-most}
use Rattle.loom_memory.proofs.memory.LoomMemory.is_settled.Goals as goal

pub overflow_add-self : goal.overflow_add-self
overflow_add-self g c = let most = room-most c.args.self.now.pager.levels.disk.rest in let roomy = c.requires.over.roomy in omega (arith, most, roomy)
