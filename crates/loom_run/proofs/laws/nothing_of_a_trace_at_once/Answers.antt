use Rattle.loom_run.proofs.RefusalLaws.{traced_came_from}
use Rattle.loom_run.proofs.laws.nothing_of_a_trace_at_once.Goals as goal

pub returns : goal.returns
returns c = traced_came_from
