use Rattle.blue_model.proofs.GuardLaws.{breaks_in_parking, breaks_in_the_start}
use Rattle.blue_model.proofs.checkpoint_laws.a_checkpoint_breaks_in_parking_or_in_the_start.Goals as goal

pub returns-clause-parking : goal.returns-clause-parking
returns-clause-parking c = breaks_in_parking

pub returns-clause-start : goal.returns-clause-start
returns-clause-start c = breaks_in_the_start
