use Rattle.std.proofs.Common.{sym, arith}
use Rattle.object_table.specs.Table.{entries_of, free_of}
use Rattle.object_table.proofs.VacantLaws.{free-is, vacant-most}
use Rattle.object_table.proofs.table.Table.free.Goals as goal

pub returns-clause-free : goal.returns-clause-free
unfolding free_of
returns-clause-free c = let t = c.args.self.now in sym (free-is t.entries.items t.vacant.items t.size t.free t.known t.within t.counted)

pub returns-clause-most : goal.returns-clause-most
unfolding entries_of
returns-clause-most c =
    let t = c.args.self.now in
    let most = vacant-most t.entries.items t.vacant.items t.known in
    let counted = t.counted in
    omega arith
