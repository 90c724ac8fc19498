use Rattle.std.proofs.Common.{◌≡◌, ◌≤◌}
use Rattle.core_segment.specs.Words.{filled_of, words_of}
use Rattle.core_segment.proofs.words.Words.fill.Given as goal

abbrev pub invariant-loop-self : goal.invariant-loop-self
invariant-loop-self l = record { same : words_of l.self ≡ words_of l.fn.self; grown : filled_of l.fn.self ≤ filled_of l.self }

abbrev pub decreases-loop-self : goal.decreases-loop-self
decreases-loop-self l = l.self.cells.spare
