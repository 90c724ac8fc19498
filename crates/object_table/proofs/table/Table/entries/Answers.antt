use Rattle.object_table.specs.Table.{entries_of}
use Rattle.std.proofs.Common.{refl}
use Rattle.object_table.proofs.table.Table.entries.Goals as goal

pub returns-clause-entries : goal.returns-clause-entries
unfolding entries_of
returns-clause-entries c = refl
