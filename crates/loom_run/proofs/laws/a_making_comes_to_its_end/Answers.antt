use Rattle.loom_run.proofs.CompletesLaws.{made_from}
use Rattle.loom_run.proofs.laws.a_making_comes_to_its_end.Goals as goal

pub returns : goal.returns
returns c = made_from
