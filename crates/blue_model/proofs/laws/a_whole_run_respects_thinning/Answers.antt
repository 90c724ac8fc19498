use Rattle.blue_model.proofs.RunLaws.{endings-agree}
use Rattle.blue_model.proofs.laws.a_whole_run_respects_thinning.Goals as goal

pub returns : goal.returns
returns c = endings-agree
