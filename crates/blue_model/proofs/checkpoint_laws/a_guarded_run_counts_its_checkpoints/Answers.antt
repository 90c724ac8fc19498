use Rattle.std.proofs.Common.{refl}
use Rattle.blue_model.proofs.GuardLaws.{guarded_serial, broken_serial, guarded_vault, guarded_counts}
use Rattle.blue_model.proofs.checkpoint_laws.a_guarded_run_counts_its_checkpoints.Goals as goal

pub returns-clause-serial : goal.returns-clause-serial
returns-clause-serial c = guarded_serial

pub returns-clause-broken : goal.returns-clause-broken
returns-clause-broken c = broken_serial

pub returns-clause-vault : goal.returns-clause-vault
returns-clause-vault c = guarded_vault

pub returns-clause-ran : goal.returns-clause-ran
returns-clause-ran c = guarded_counts

pub returns-clause-end : goal.returns-clause-end
returns-clause-end c = refl
