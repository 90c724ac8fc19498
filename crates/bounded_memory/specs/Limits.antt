-- What the bounds of a memory stand for.
use Rattle.std.specs.Prelude.{Some}
use Rattle.object_memory.specs.Told.{Bounds}
use Rattle.bounded_memory.specs.declared.limits.Limits.{Limits}

-- how many objects lived at the last settling is always known, and no call on Transcript fails
abbrev pub bounds_of : Limits → Bounds
bounds_of l = record { core = l.core; entries = l.entries; room = l.room; base = Some l.base; made = l.made; work_faults = l.work_faults; said_faults = 0 }
