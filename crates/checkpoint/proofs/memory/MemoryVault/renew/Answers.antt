use Rattle.std.proofs.Common.{arith}
use Rattle.checkpoint.specs.Memory.{HasRoom}
use Rattle.checkpoint.proofs.MemoryLaws.{fresh-room}
use Rattle.checkpoint.proofs.memory.MemoryVault.renew.Goals as goal

pub returns-in_ok-open-clause-room : goal.returns-in_ok-open-clause-room
unfolding HasRoom
returns-in_ok-open-clause-room c = λ name_bytes calls bytes end room. (
  omega (arith, room.0, c.extend_from_slice.ensures.capacity, c.clear.ensures.capacity),
  c.in_ok-open.ensures.room calls bytes end (fresh-room c.args.fresh calls bytes end c.args.self.now.journal c.if-fresh.true room.1),
)
