use Rattle.core_view.proofs.DeadLaws.{waiting-loose, none-bare}
use Rattle.core_view.proofs.counts.dead_names_are_found.Goals as goal

pub returns-clause-pending : goal.returns-clause-pending
returns-clause-pending c = waiting-loose

pub returns-clause-none : goal.returns-clause-none
returns-clause-none c = none-bare
