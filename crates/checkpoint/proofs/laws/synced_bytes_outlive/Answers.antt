use Rattle.checkpoint.proofs.MomentLaws.{empty-opened}
use Rattle.checkpoint.proofs.SureLaws.{sure-left, sure-synced_all}
use Rattle.checkpoint.proofs.laws.synced_bytes_outlive.Goals as goal

pub returns-clause-synced : goal.returns-clause-synced
returns-clause-synced c s bytes none may i = sure-left s _ _ bytes (sure-synced_all s none) may i tt

pub returns-clause-fresh : goal.returns-clause-fresh
returns-clause-fresh c text result old new opened = empty-opened text result old new opened
