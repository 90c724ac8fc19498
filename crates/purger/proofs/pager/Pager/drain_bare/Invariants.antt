use Rattle.disk_objects.specs.Disk.{disk_held}
use Rattle.purger.specs.Freeing.{LeavesNamed, ThinsHeap}
use Rattle.purger.proofs.pager.Pager.drain_bare.Given as goal

abbrev pub invariant-loop : goal.invariant-loop
invariant-loop g l = record {
  leaves : LeavesNamed l.fn.self l.self;
  keeps : ThinsHeap l.fn.self l.self;
}

abbrev pub decreases-loop : goal.decreases-loop
decreases-loop g l = disk_held l.self.levels.disk.rest
