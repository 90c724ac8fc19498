use Rattle.std.proofs.Common.{arith}
use Rattle.checkpoint.specs.Memory.{HasRoom}
use Rattle.checkpoint.proofs.memory.MemoryVault.reserve.Goals as goal

pub returns-in_err-reserve-clause-widens : goal.returns-in_err-reserve-clause-widens
unfolding HasRoom
returns-in_err-reserve-clause-widens c = λ name_bytes calls bytes end room. (room.0, c.in_err-reserve.ensures.room calls bytes end room.1)

pub returns-clause-widens : goal.returns-clause-widens
unfolding HasRoom
returns-clause-widens c = λ name_bytes calls bytes end room. (omega (arith, room.0, c.reserve-2.ensures.capacity), c.in_ok-reserve.ensures.room calls bytes end room.1)
