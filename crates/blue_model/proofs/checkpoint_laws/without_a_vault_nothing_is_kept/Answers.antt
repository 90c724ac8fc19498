use Rattle.blue_model.proofs.KeepLaws.{cycle_leaves, run_never_keeps}
use Rattle.blue_model.proofs.checkpoint_laws.without_a_vault_nothing_is_kept.Goals as goal

pub returns-clause-stays : goal.returns-clause-stays
returns-clause-stays c = cycle_leaves

pub returns-clause-never : goal.returns-clause-never
returns-clause-never c = run_never_keeps
