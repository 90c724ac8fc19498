use Rattle.core_segment.specs.Words.{filled_of, words_of}
use Rattle.std.proofs.Common.{◌-◌, ◌≤◌}
use Rattle.core_segment.specs.Layout.{tiles_of}
use Rattle.core_segment.proofs.RelistLaws.{IsThreading}
use Rattle.core_segment.proofs.order.thread.Given as goal

abbrev pub invariant-loop-place : goal.invariant-loop-place
invariant-loop-place l = record {
  threading : IsThreading (words_of l.fn.region) (words_of l.region) (tiles_of (words_of l.fn.region)) l.place l.link;
  grown : filled_of l.fn.region ≤ filled_of l.region;
}

abbrev pub decreases-loop-place : goal.decreases-loop-place
decreases-loop-place l = l.end - l.place
