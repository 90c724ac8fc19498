use Rattle.std.proofs.Common.{◌≤◌, ◌+◌, ◌-◌, ◌*◌, ◌^◌, length}
use Rattle.object_record.specs.Raw.{longs_of}
use Rattle.object_record.specs.Buffer.{raw_of, HasRecord}
use Rattle.core_segment.specs.Segment.{free_of, size_of}
use Rattle.disk_objects.specs.Disk.{disk_held}
use Rattle.purger.specs.Freeing.{LeavesNamed, ThinsHeap}
use Rattle.purger.proofs.pager.Pager.free_fields.Given as goal

abbrev pub invariant-loop-left : goal.invariant-loop-left
invariant-loop-left g l = record {
  leaves : LeavesNamed l.fn.self l.self;
  keeps : ThinsHeap l.fn.self l.self;
  there : HasRecord l.self.out;
  fields : l.left ≤ length (longs_of (raw_of l.self.out).body);
  held : disk_held l.self.levels.disk.rest ≤ disk_held l.fn.self.levels.disk.rest;
}

-- an object that goes leaves words free, and each field is looked at once
abbrev pub decreases-loop-left : goal.decreases-loop-left
decreases-loop-left g l = (size_of l.self.levels.parts.segment - free_of l.self.levels.parts.segment) * 2 ^ 32 + l.left
