use Rattle.std.proofs.Common.{sym}
use Rattle.loom_memory.proofs.AddLaws.{told-next}
use Rattle.loom_memory.proofs.memory.LoomMemory.next_name.Goals as goal

pub returns : goal.returns
returns g c = λ told. sym (told-next g.H.Host c.args.self.now told)
