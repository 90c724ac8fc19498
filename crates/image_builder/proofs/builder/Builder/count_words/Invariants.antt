use Rattle.std.proofs.Common.{◌≡◌, ℕ, ◌+◌}
use Rattle.std.specs.List.{sum_by}
use Rattle.image_builder.specs.Parts.{count_in, words_of}
use Rattle.image_builder.proofs.builder.Builder.count_words.Given as goal

-- what was counted, and what is to come
abbrev pub invariant-loop-object : goal.invariant-loop-object
invariant-loop-object l = (q : ℕ) → count_in l.counts q + sum_by (words_of q) l.object-iterator ≡ sum_by (words_of q) l.fn.self.objects.entries
