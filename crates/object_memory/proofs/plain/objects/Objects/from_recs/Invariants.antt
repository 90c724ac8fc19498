use Rattle.std.proofs.Common.{◌≡◌, take}
use Rattle.object_memory.specs.Plain.{heap_of}
use Rattle.object_memory.specs.Records.{heap_of_recs}
use Rattle.object_memory.proofs.plain.objects.Objects.from_recs.Given as goal

abbrev pub invariant-loop-i : goal.invariant-loop-i
invariant-loop-i l = heap_of l.objects ≡ heap_of_recs (take l.i l.recs) l.next
