use Rattle.loom_run.proofs.TracedCompletes.{traced_from}
use Rattle.loom_run.proofs.laws.a_trace_comes_to_its_end.Goals as goal

pub returns : goal.returns
returns c = traced_from
