use Rattle.object_record.specs.Buffer.{HasRecord}
use Rattle.disk_objects.specs.Disk.{disk_held}
use Rattle.purger.specs.Freeing.{LeavesNamed, ThinsHeap}
use Rattle.purger.proofs.pager.Pager.free_on.Given as goal

abbrev pub invariant-loop-self : goal.invariant-loop-self
invariant-loop-self g l = record {
  leaves : LeavesNamed l.fn.self l.self;
  keeps : ThinsHeap l.fn.self l.self;
  there : HasRecord l.self.out;
}

abbrev pub decreases-loop-self : goal.decreases-loop-self
decreases-loop-self g l = disk_held l.self.levels.disk.rest
