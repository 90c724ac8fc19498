use Rattle.std.proofs.Common.{refl}
use Rattle.loom_gen.specs.Table.{table}
use Rattle.loom_gen.proofs.RowLaws.{row-object, row-named}
use Rattle.loom_gen.proofs.table.row.Goals as goal

-- each row of the code stands for the entry of the table that has its name
pub returns-clause-object : goal.returns-clause-object
unfolding table
returns-clause-object c = λ number. row-object number c.args.name _ c.row_among.result c.row_among.ensures

pub returns-clause-named : goal.returns-clause-named
returns-clause-named c = row-named c.args.name _ c.row_among.result c.row_among.ensures refl
