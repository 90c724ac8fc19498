use Rattle.blue_model.specs.Machine.{log_of}
use Rattle.blue_model.specs.Cycle.{cycle}
use Rattle.blue_model.specs.Logs.{living, lives}
use Rattle.blue_model.proofs.LiveLaws.{lives_at, living_thinned, lives_thinned}
use Rattle.blue_model.proofs.log_laws.lives_rise_by_one.Goals as goal

pub returns-clause-at : goal.returns-clause-at
unfolding lives
returns-clause-at c events m i low = lives_at (living m) i (log_of (cycle events m)) low

pub returns-clause-living : goal.returns-clause-living
returns-clause-living c = living_thinned

pub returns-clause-thinning : goal.returns-clause-thinning
returns-clause-thinning c = lives_thinned
