-- Segments whose free chunks were joined.
use Rattle.std.proofs.Common.{refl, ◌∙◌, arith}
use Rattle.core_segment.specs.declared.segment.Segment.{Segment}
use Rattle.core_segment.specs.Segment.{IsJoined}

pub joined-none : (g : Segment) → IsJoined g g
joined-none g = record { chunks = refl; free = refl; largest = omega arith; size = refl }

pub joined-then : (g h k : Segment) → IsJoined g h → IsJoined h k → IsJoined g k
joined-then g h k a b = record {
  chunks = b.chunks ∙ a.chunks;
  free = b.free ∙ a.free;
  largest = let c = a.largest in let d = b.largest in omega arith;
  size = b.size ∙ a.size;
}
