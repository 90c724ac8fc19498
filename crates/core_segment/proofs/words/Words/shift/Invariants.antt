use Rattle.core_segment.specs.Words.{filled_of, words_of}
use Rattle.std.proofs.Common.{◌≡◌}
use Rattle.core_segment.specs.Heads.{IsMovedDown}
use Rattle.core_segment.proofs.words.Words.shift.Given as goal

abbrev pub invariant-loop-k : goal.invariant-loop-k
invariant-loop-k l = record { moved : IsMovedDown (words_of l.fn.self) (words_of l.self) l.from l.to l.k; filled : filled_of l.self ≡ filled_of l.fn.self }
