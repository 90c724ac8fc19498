use Rattle.core_segment.specs.Segment.{chunk_at}
use Rattle.loom_memory.proofs.BodyLaws.{byte-low, byte-high}
use Rattle.loom_memory.proofs.bodies.byte_from.Goals as goal

pub returns-then-i-eq1 : goal.returns-then-i-eq1
returns-then-i-eq1 c = byte-low c.args.first (chunk_at c.args.g.now c.args.at.place).words c.args.i c.word-w.result c.word-w.ensures c.if-i-eq1.true

pub returns-else-i-eq1 : goal.returns-else-i-eq1
returns-else-i-eq1 c = byte-high c.args.first (chunk_at c.args.g.now c.args.at.place).words c.args.i c.word-w.result c.word-w.ensures c.if-i-eq1.false
