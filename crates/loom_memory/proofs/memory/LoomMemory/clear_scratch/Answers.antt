use Rattle.loom_memory.proofs.GentleLaws.{steady-refl}
use Rattle.loom_memory.proofs.ScratchLaws.{clear-already}
use Rattle.loom_memory.proofs.memory.LoomMemory.clear_scratch.Goals as goal

pub returns-then-is_scratch_clear-clause-regs : goal.returns-then-is_scratch_clear-clause-regs
returns-then-is_scratch_clear-clause-regs g c = clear-already g.H.Host c.args.self.now (c.is_scratch_clear.ensures c.if-is_scratch_clear.true)

pub returns-then-is_scratch_clear-clause-steady : goal.returns-then-is_scratch_clear-clause-steady
returns-then-is_scratch_clear-clause-steady g c = steady-refl g.H.Host c.args.self.now
