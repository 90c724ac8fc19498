use Rattle.core_segment.specs.Segment.{work_of}
use Rattle.core_tests.proofs.patterns.Kept.compact.Given as goal

abbrev pub decreases-loop : goal.decreases-loop
decreases-loop l = work_of l.self.segment
