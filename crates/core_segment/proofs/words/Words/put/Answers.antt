use Rattle.std.proofs.Common.{ℕ, List, slice_set, ◌∙◌, ap, arith}
use Rattle.core_segment.proofs.words.Words.put.Goals as goal

pub returns-clause-words : goal.returns-clause-words
returns-clause-words c = c.put_written.ensures.words ∙ ap (λ (l : List ℕ). slice_set l c.args.i c.args.w) c.reach.ensures.same

pub returns-clause-grown : goal.returns-clause-grown
returns-clause-grown c = let grown = c.reach.ensures.grown in let same = c.put_written.ensures.filled in omega arith
