use Rattle.std.proofs.Common.{arith}
use Rattle.loom_memory.proofs.AddLaws.{room-most}
use Rattle.loom_memory.proofs.memory.LoomMemory.overfull.Goals as goal

pub overflow_add-live : goal.overflow_add-live
overflow_add-live g c = let most = room-most c.args.self.now.pager.levels.disk.rest in let roomy = c.requires.fit.sound.over.roomy in omega (arith, most, roomy)
