use Rattle.std.proofs.Common.{◌≡◌, ℕ, ◌+◌}
use Rattle.std.specs.List.{sum_by}
use Rattle.object_memory.specs.Counts.{count_in}
use Rattle.object_memory.proofs.Entries.{words_of}
use Rattle.object_memory.proofs.plain.kept.count_words.Given as goal

-- what was counted, and what is to come
abbrev pub invariant-loop-object : goal.invariant-loop-object
invariant-loop-object l = (q : ℕ) → count_in l.counts q + sum_by (words_of q) l.object-iterator ≡ count_in l.fn.counts q + sum_by (words_of q) l.heap.objects.entries
