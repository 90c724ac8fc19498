use Rattle.blue_model.proofs.GuardLaws.{goes_next, goes_quit, goes_stop, goes_keep}
use Rattle.blue_model.proofs.checkpoint_laws.a_guarded_run_goes_from_one_checkpoint_to_the_next.Goals as goal

pub returns-clause-next : goal.returns-clause-next
returns-clause-next c = goes_next

pub returns-clause-quit : goal.returns-clause-quit
returns-clause-quit c = goes_quit

pub returns-clause-stopped : goal.returns-clause-stopped
returns-clause-stopped c = goes_stop

pub returns-clause-kept : goal.returns-clause-kept
returns-clause-kept c = goes_keep
