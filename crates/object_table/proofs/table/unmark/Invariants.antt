use Rattle.std.proofs.Common.{◌≡◌, length, vec_capacity}
use Rattle.object_table.proofs.NoteLaws.{IsLeft}
use Rattle.object_table.proofs.table.unmark.Given as goal

abbrev pub invariant-loop-i : goal.invariant-loop-i
invariant-loop-i l = record {
  left : IsLeft l.fn.entries.items l.entries.items l.listed.items l.noted.items l.i;
  entries : vec_capacity l.entries ≡ vec_capacity l.fn.entries;
  listed : vec_capacity l.listed ≡ vec_capacity l.fn.listed;
  end : l.i-end ≡ length l.noted.items;
}
