use Rattle.loom_memory.proofs.EffectLaws.{ok-wanting}
use Rattle.loom_memory.proofs.memory.LoomMemory.clear.Goals as goal

pub returns-clause-gentle : goal.returns-clause-gentle
returns-clause-gentle g c = ok-wanting _ c.page.result (c.has_room.ensures.lacks c.if-has_room.false)

pub returns-clause-idle : goal.returns-clause-idle
returns-clause-idle g c = ok-wanting _ c.page.result (c.has_room.ensures.lacks c.if-has_room.false)
