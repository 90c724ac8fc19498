use Rattle.std.proofs.Common.{◌≡◌, ◌+◌, ◌*◌, ◌≤◌}
use Rattle.object_table.specs.Entries.{sum_below}
use Rattle.object_table.specs.Table.{entries_of}
use Rattle.core_view.specs.Purge.{fresh_by}
use Rattle.leaf_lambda.specs.Parts.{core_of}
use Rattle.loom_memory.proofs.settling.count_fresh.Given as goal

abbrev pub invariant-loop-i : goal.invariant-loop-i
invariant-loop-i l = record {
  sum : l.count ≡ sum_below (2 * l.i + 2) (λ s. fresh_by ((core_of l.fn.p).entries s));
  few : l.count ≤ l.i;
  low : l.i ≤ entries_of l.fn.p.names.table;
}
