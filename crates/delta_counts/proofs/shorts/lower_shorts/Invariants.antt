use Rattle.std.proofs.Common.{map, take}
use Rattle.object_table.specs.Table.{entry_at}
use Rattle.delta_counts.specs.Parts.{IsCounting}
use Rattle.delta_counts.specs.Shorts.{Lowers, short_value}
use Rattle.delta_counts.proofs.shorts.lower_shorts.Given as goal

abbrev pub invariant-loop-i : goal.invariant-loop-i
invariant-loop-i l = record {
  lowers : Lowers l.fn.p l.p (take l.i (map (short_value (entry_at l.fn.p.table)) l.fn.words));
  counting : IsCounting l.fn.p l.p;
}
