-- The same words free in the same chunks, one step after another.
use Rattle.std.proofs.Common.{refl, ◌∙◌}
use Rattle.core_segment.specs.declared.segment.Segment.{Segment}
use Rattle.core_segment.specs.Segment.{SameRoom}

pub Room-refl : (g : Segment) → SameRoom g g
Room-refl g = record { size = refl; free = refl; largest = refl }

pub Room-trans : (f g h : Segment) → SameRoom f g → SameRoom g h → SameRoom f h
Room-trans f g h x y = record { size = y.size ∙ x.size; free = y.free ∙ x.free; largest = y.largest ∙ x.largest }
