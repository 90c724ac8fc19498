use Rattle.std.proofs.Common.{◌≡◌, ◌==◌, drop}
use Rattle.std.specs.List.{find}
use Rattle.loom_gen.proofs.table.row_among.Given as goal

abbrev pub invariant-loop-row : goal.invariant-loop-row
invariant-loop-row l = find (λ row. row.name == l.name) (drop l.row-index l.rows) ≡ find (λ row. row.name == l.name) l.rows
