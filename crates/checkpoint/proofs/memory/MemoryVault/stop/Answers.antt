use Rattle.checkpoint.specs.Journal.{state_in}
use Rattle.checkpoint.specs.Memory.{HasRoom, state_of}
use Rattle.checkpoint.proofs.NotedLaws.{stopped-may}
use Rattle.checkpoint.proofs.memory.MemoryVault.stop.Goals as goal

pub returns-clause-may : goal.returns-clause-may
unfolding state_of
returns-clause-may c = stopped-may (state_in c.args.self.now.journal) (state_in c.stop.new.self) c.args.kept c.args.fill c.stop.ensures.state

pub returns-clause-room : goal.returns-clause-room
unfolding HasRoom
returns-clause-room c = λ name_bytes calls bytes end room. (room.0, c.stop.ensures.room calls bytes end room.1)
