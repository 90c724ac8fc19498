use Rattle.core_segment.specs.Words.{words_of}
use Rattle.std.proofs.Common.{length}
use Rattle.core_segment.specs.Lists.{chain}
use Rattle.core_segment.proofs.FindLaws.{IsPassing}
use Rattle.core_segment.proofs.lists.Lists.find_long.Given as goal

abbrev pub invariant-loop-link : goal.invariant-loop-link
invariant-loop-link l = IsPassing (words_of l.region) l.self.firsts l.words l.before l.link

abbrev pub decreases-loop-link : goal.decreases-loop-link
decreases-loop-link l = length (chain (words_of l.region) (length (words_of l.region)) l.link)
