-- The words of a region. Those behind the ones that were written are 0.
use Rattle.std.specs.Prelude.{ℕ, List, length}
use Rattle.core_segment.specs.Memory.{with_zeros}
use Rattle.core_segment.specs.declared.words.Words.{Words}

abbrev pub words_of : Words → List ℕ
words_of w = with_zeros w.cells.items w.cells.spare

-- how many of them were written: those from here on are known to be 0
abbrev pub filled_of : Words → ℕ
filled_of w = length w.cells.items
