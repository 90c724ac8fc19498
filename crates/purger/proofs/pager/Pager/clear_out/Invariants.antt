use Rattle.std.proofs.Common.{◌+◌, ◌*◌, ◌/◌, ◌⊎◌}
use Rattle.object_table.specs.Table.{entries_of}
use Rattle.purger.specs.Pager.{Preserves, Spares}
use Rattle.purger.specs.Purge.{HasRoom}
use Rattle.purger.specs.declared.room.TheConstants.{ROUND_PARTS}
use Rattle.purger.proofs.PagerLaws.{NoneBelow}
use Rattle.purger.proofs.SweptLaws.{IsThrough}
use Rattle.purger.proofs.pager.Pager.clear_out.Given as goal

abbrev pub invariant-loop-i : goal.invariant-loop-i
invariant-loop-i g l = record {
  leaves : Spares l.fn.self l.self;
  keeps : Preserves l.fn.self l.self;
  gone : HasRoom l.self.levels.parts l.fn.words l.fn.entries ⊎ NoneBelow (2 * l.i + 2) l.self;
  through : IsThrough (entries_of l.fn.self.levels.parts.names.table / ROUND_PARTS) l.fn.words l.fn.entries l.i l.behind.left l.fn.self.levels.parts l.self.levels.parts;
}
