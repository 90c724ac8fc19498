use Rattle.memory_files.proofs.Read.{start-first, start-none, start-second}
use Rattle.memory_files.proofs.calls.seen_at_start.Goals as goal

pub returns-then-descriptor-eq1 : goal.returns-then-descriptor-eq1
returns-then-descriptor-eq1 c = start-first _ _ c.if-descriptor-eq1.true c.stream.ensures

pub returns-then-descriptor-eq2 : goal.returns-then-descriptor-eq2
returns-then-descriptor-eq2 c = start-second _ _ c.if-descriptor-eq2.true c.stream-then-descriptor-eq2.ensures

pub returns : goal.returns
returns c = start-none _ c.if-descriptor-eq1.false c.if-descriptor-eq2.false
