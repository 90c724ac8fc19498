use Rattle.std.proofs.Common.{refl}
use Rattle.loom_memory.proofs.TextLaws.{front-long}
use Rattle.loom_memory.proofs.memory.LoomMemory.say_from.Goals as goal

pub say_run-requires-clause-long : goal.say_run-requires-clause-long
say_run-requires-clause-long g c = front-long c.args.count _ c.requires.few refl
