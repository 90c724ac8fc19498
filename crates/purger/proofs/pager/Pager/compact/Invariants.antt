use Rattle.core_segment.specs.Segment.{work_of}
use Rattle.purger.specs.Pager.{Moves}
use Rattle.purger.proofs.pager.Pager.compact.Given as goal

abbrev pub invariant-loop-levels : goal.invariant-loop-levels
invariant-loop-levels g l = record {
  moves : Moves l.fn.self (record l.fn.self { levels = l.levels });
}

abbrev pub decreases-loop-levels : goal.decreases-loop-levels
decreases-loop-levels g l = work_of l.levels.parts.segment
