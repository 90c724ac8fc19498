use Rattle.std.proofs.Common.{◌-◌}
use Rattle.core_segment.specs.Segment.{free_of, size_of}
use Rattle.purger.specs.Freeing.{LeavesNamed, ThinsHeap}
use Rattle.purger.proofs.pager.Pager.drain.Given as goal

abbrev pub invariant-loop-before : goal.invariant-loop-before
invariant-loop-before g l = record {
  leaves : LeavesNamed l.fn.self l.self;
  keeps : ThinsHeap l.fn.self l.self;
}

abbrev pub decreases-loop-before : goal.decreases-loop-before
decreases-loop-before g l = size_of l.self.levels.parts.segment - free_of l.self.levels.parts.segment
