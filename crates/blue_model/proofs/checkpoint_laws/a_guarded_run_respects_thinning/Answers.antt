use Rattle.blue_model.proofs.GuardLaws.{guarded-agree, guarded_adds}
use Rattle.blue_model.proofs.checkpoint_laws.a_guarded_run_respects_thinning.Goals as goal

pub returns-clause-thinned : goal.returns-clause-thinned
returns-clause-thinned c = guarded-agree

pub returns-clause-adds : goal.returns-clause-adds
returns-clause-adds c = guarded_adds
