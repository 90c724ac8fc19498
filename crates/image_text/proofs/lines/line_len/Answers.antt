use Rattle.std.proofs.Common.{arith}
use Rattle.image_text.proofs.LineReads.{line_end, line_here, line_more}
use Rattle.image_text.proofs.lines.line_len.Goals as goal

pub returns-then-bytes-i-eq10-clause-first : goal.returns-then-bytes-i-eq10-clause-first
returns-then-bytes-i-eq10-clause-first c = λ start. line_here c.args.bytes.now c.loop-i.i (c.loop-i.invariant start) (omega arith) c.if-bytes-i-eq10.true

pub loop-i-preserved : goal.loop-i-preserved
loop-i-preserved c = λ start. line_more c.args.bytes.now c.loop-i.i (c.loop-i.invariant start) (omega arith) c.if-bytes-i-eq10.false

pub returns-clause-first : goal.returns-clause-first
returns-clause-first c = λ start. line_end c.args.bytes.now c.loop-i.i (c.loop-i.invariant start) (omega arith)
