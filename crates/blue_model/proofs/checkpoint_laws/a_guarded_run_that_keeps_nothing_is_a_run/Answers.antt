use Rattle.blue_model.proofs.GuardLaws.{nothing_kept, last_serial}
use Rattle.blue_model.proofs.checkpoint_laws.a_guarded_run_that_keeps_nothing_is_a_run.Goals as goal

pub returns-clause-none : goal.returns-clause-none
returns-clause-none c = nothing_kept

pub returns-clause-last : goal.returns-clause-last
returns-clause-last c = last_serial
