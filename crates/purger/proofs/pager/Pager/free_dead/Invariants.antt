use Rattle.std.proofs.Common.{◌≡◌, ◌+◌, ◌*◌, IsTrue}
use Rattle.loom_host.specs.declared.outside.Role.TheVariants.{Work}
use Rattle.core_segment.specs.Segment.{free_of}
use Rattle.purger.specs.Draining.{NoneDeadBelow}
use Rattle.purger.specs.Freeing.{KeepsAll, LeavesNamed, ThinsHeap}
use Rattle.purger.proofs.pager.Pager.free_dead.Given as goal

abbrev pub invariant-loop-i : goal.invariant-loop-i
invariant-loop-i g l = record {
  leaves : LeavesNamed l.fn.self l.self;
  keeps : ThinsHeap l.fn.self l.self;
  none : IsTrue (g.H.Host.tells Work) → free_of l.self.levels.parts.segment ≡ free_of l.fn.self.levels.parts.segment → KeepsAll l.fn.self l.self (NoneDeadBelow (2 * l.i + 2));
}
