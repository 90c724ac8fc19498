use Rattle.loom_run.proofs.RefusalLaws.{came_from}
use Rattle.loom_run.proofs.laws.nothing_at_once.Goals as goal

pub returns : goal.returns
returns c = came_from
