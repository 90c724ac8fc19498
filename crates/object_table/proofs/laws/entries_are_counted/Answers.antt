use Rattle.object_table.specs.Table.{entry_at, entries_of, free_of}
use Rattle.object_table.proofs.CountLaws.{counted}
use Rattle.object_table.proofs.laws.entries_are_counted.Goals as goal

pub returns : goal.returns
unfolding entry_at entries_of free_of
returns c = counted c.args.table.now.entries.items c.args.table.now.size c.args.table.now.within
