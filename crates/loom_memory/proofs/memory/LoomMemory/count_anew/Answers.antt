use Rattle.std.proofs.Common.{refl}
use Rattle.loom_memory.proofs.SettleLaws.{begun-sound, begun-told}
use Rattle.loom_memory.proofs.memory.LoomMemory.count_anew.Goals as goal

pub returns-clause-begun : goal.returns-clause-begun
returns-clause-begun g c = begun-told g.H.Host c.args.self.now _ c.args.base refl refl

pub returns-clause-sound : goal.returns-clause-sound
returns-clause-sound g c = begun-sound g.H.Host c.args.self.now _ c.args.base c.requires.sound c.requires.numbers refl
