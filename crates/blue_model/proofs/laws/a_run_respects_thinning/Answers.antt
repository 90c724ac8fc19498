use Rattle.blue_model.proofs.RunLaws.{runs-agree}
use Rattle.blue_model.proofs.laws.a_run_respects_thinning.Goals as goal

pub returns : goal.returns
returns c = runs-agree
