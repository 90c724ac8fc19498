use Rattle.std.proofs.Common.{◌∙◌}
use Rattle.loom_memory.proofs.LentLaws.{faults-are}
use Rattle.loom_memory.proofs.memory.LoomMemory.fault_count.Goals as goal

pub returns : goal.returns
returns g c = c.fault_count.ensures ∙ faults-are g.H.Host c.args.self.now c.args.role
