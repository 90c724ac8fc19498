use Rattle.std.proofs.Common.{◌/◌}
use Rattle.object_table.specs.Table.{entries_of}
use Rattle.purger.specs.Pager.{Preserves, Spares}
use Rattle.purger.specs.declared.room.TheConstants.{ROUND_PARTS}
use Rattle.purger.proofs.SweptLaws.{IsRound}
use Rattle.purger.proofs.pager.Pager.go_round.Given as goal

abbrev pub invariant-loop-i : goal.invariant-loop-i
invariant-loop-i g l = record {
  leaves : Spares l.fn.self l.self;
  keeps : Preserves l.fn.self l.self;
  round : IsRound (entries_of l.fn.self.levels.parts.names.table / ROUND_PARTS) l.fn.words l.fn.entries l.i l.behind.left l.fn.self.levels.parts l.self.levels.parts;
}
