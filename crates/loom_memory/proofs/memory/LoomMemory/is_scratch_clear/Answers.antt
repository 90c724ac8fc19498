use Rattle.std.proofs.Common.{arith}
use Rattle.loom_memory.proofs.ScratchLaws.{one-more}
use Rattle.loom_memory.proofs.memory.LoomMemory.is_scratch_clear.Goals as goal

pub loop-r-init : goal.loop-r-init
loop-r-init g c = λ e q low high. absurd (omega (arith, low, high))

pub loop-r-preserved : goal.loop-r-preserved
loop-r-preserved g c = one-more c.args.self.now.regs c.loop-r.r c.loop-r.clear c.requires.kept.many c.loop-r-test.true c.loop-r.invariant

pub returns : goal.returns
returns g c = λ e q low high. c.loop-r.invariant e q low (let end = c.loop-r-test.false in omega (arith, high, end))
