use Rattle.purger.specs.Freeing.{LeavesNamed, ThinsHeap}
use Rattle.purger.proofs.pager.Pager.free_down.Given as goal

abbrev pub invariant-loop-i : goal.invariant-loop-i
invariant-loop-i g l = record {
  leaves : LeavesNamed l.fn.self l.self;
  keeps : ThinsHeap l.fn.self l.self;
}
