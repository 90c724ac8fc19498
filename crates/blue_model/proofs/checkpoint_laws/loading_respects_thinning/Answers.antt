use Rattle.blue_model.proofs.LoadLaws.{loaded-agree, loaded_whole}
use Rattle.blue_model.proofs.checkpoint_laws.loading_respects_thinning.Goals as goal

pub returns-clause-thinned : goal.returns-clause-thinned
returns-clause-thinned c = loaded-agree

pub returns-clause-whole : goal.returns-clause-whole
returns-clause-whole c = loaded_whole
