use Rattle.std.proofs.Common.{◌≡◌, take}
use Rattle.loom_gen.specs.Inside.{field_values}
use Rattle.loom_gen.proofs.rows.values.Given as goal

abbrev pub invariant-loop-field : goal.invariant-loop-field
invariant-loop-field l = l.values ≡ field_values l.number (take l.field-index l.fields)
