use Rattle.loom_memory.specs.Memory.{loom_told}
use Rattle.loom_run.proofs.MemoryLaws.{keeps-state}
use Rattle.st80_trace.proofs.tracing.trace_machine.Goals as goal

pub begin-requires-clause-state : goal.begin-requires-clause-state
unfolding loom_told
begin-requires-clause-state g c = λ told. let b = c.requires.begins told in keeps-state b.0 c.args.state.now (loom_told g.H.Host c.args.memory.now) b.1 c.requires.ready told
