use Rattle.std.proofs.Common.{◌≡◌, ◌++◌, take}
use Rattle.long_names.specs.Record.{values_text}
use Rattle.image_format.proofs.encoding.put_values.Given as goal

abbrev pub invariant-loop-i : goal.invariant-loop-i
invariant-loop-i l = l.out ≡ l.fn.out ++ values_text (take l.i l.values)
