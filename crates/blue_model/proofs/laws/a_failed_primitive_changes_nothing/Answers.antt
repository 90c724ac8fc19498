use Rattle.blue_model.proofs.FailLaws.{failed_changes_nothing, copy_bits_changes_nothing}
use Rattle.blue_model.proofs.laws.a_failed_primitive_changes_nothing.Goals as goal

pub returns-clause-table : goal.returns-clause-table
returns-clause-table c = failed_changes_nothing

pub returns-clause-blit : goal.returns-clause-blit
returns-clause-blit c = copy_bits_changes_nothing
