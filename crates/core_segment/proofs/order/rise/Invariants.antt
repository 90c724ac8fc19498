use Rattle.core_segment.specs.Words.{filled_of, words_of}
use Rattle.std.proofs.Common.{◌≤◌}
use Rattle.core_segment.specs.Layout.{tiles_of}
use Rattle.core_segment.proofs.RelistLaws.{IsRising}
use Rattle.core_segment.proofs.order.rise.Given as goal

abbrev pub invariant-loop-link : goal.invariant-loop-link
invariant-loop-link l = record {
  rising : IsRising (words_of l.fn.region) (words_of l.region) l.lists.firsts (tiles_of (words_of l.fn.region)) l.link;
  grown : filled_of l.fn.region ≤ filled_of l.region;
}

abbrev pub decreases-loop-link : goal.decreases-loop-link
decreases-loop-link l = l.link
