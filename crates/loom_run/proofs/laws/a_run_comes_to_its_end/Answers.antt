use Rattle.loom_run.proofs.CompletesLaws.{completes_from}
use Rattle.loom_run.proofs.laws.a_run_comes_to_its_end.Goals as goal

pub returns : goal.returns
returns c = completes_from
