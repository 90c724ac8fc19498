use Rattle.core_segment.specs.Words.{words_of}
use Rattle.std.proofs.Common.{◌-◌, length}
use Rattle.core_segment.proofs.ScrapLaws.{IsWalk}
use Rattle.core_segment.proofs.segment.Segment.has_scrap.Given as goal

abbrev pub invariant-loop-place : goal.invariant-loop-place
invariant-loop-place l = IsWalk (words_of l.self.region) l.words l.place

abbrev pub decreases-loop-place : goal.decreases-loop-place
decreases-loop-place l = length (words_of l.self.region) - l.place
