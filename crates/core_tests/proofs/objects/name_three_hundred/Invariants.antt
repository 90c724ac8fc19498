use Rattle.std.proofs.Common.{◌≡◌, ℕ, List, length}
use Rattle.object_record.specs.Buffer.{HasRecord, raw_of}
use Rattle.object_record.specs.Raw.{RawPointers}
use Rattle.core_tests.proofs.objects.name_three_hundred.Given as goal

abbrev pub invariant-loop-i : goal.invariant-loop-i
invariant-loop-i l =
    record { record_is : HasRecord l.buf; pointers : (longs : List ℕ) × ((raw_of l.buf).body ≡ RawPointers longs) × (length longs ≡ 300) }
