use Rattle.core_segment.specs.Words.{words_of}
use Rattle.std.proofs.Common.{◌≡◌, ◌-◌, ◌≤◌, Some}
use Rattle.core_segment.specs.Segment.{IsJoined}
use Rattle.core_segment.specs.Heads.{size_in}
use Rattle.core_segment.proofs.segment.Segment.join.Given as goal

abbrev pub invariant-loop-gap : goal.invariant-loop-gap
invariant-loop-gap l = record {
  joined : IsJoined l.fn.self l.self;
  reached : l.self.reached ≡ Some l.to;
  gap : size_in (words_of l.self.region) l.to ≡ l.gap;
  few : l.gap ≤ l.self.free;
}

abbrev pub decreases-loop-gap : goal.decreases-loop-gap
decreases-loop-gap l = l.self.free - l.gap
