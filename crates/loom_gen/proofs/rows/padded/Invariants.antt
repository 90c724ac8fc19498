use Rattle.std.proofs.Common.{◌≡◌, ◌++◌}
use Rattle.loom_gen.specs.Notation.{nils}
use Rattle.loom_gen.specs.Inside.{field_values}
use Rattle.loom_gen.proofs.rows.padded.Given as goal

abbrev pub invariant-loop : goal.invariant-loop
invariant-loop l = l.padded ≡ field_values l.number l.fields ++ nils l.counter
