use Rattle.st80_objects.proofs.ReadLaws.{SoFar}
use Rattle.st80_objects.proofs.reading.read_objects.Given as goal

abbrev pub invariant-records : goal.invariant-records
invariant-records l = SoFar l.opening l.bytes l.start l.at l.counter l.objects
