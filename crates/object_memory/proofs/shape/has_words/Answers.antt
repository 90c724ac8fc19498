use Rattle.std.proofs.Common.{◌+◌, ◌≤◌}
use Rattle.long_names.specs.Objects.{words_of}
use Rattle.object_memory.proofs.ShapeLaws.{tests_part}
use Rattle.object_memory.proofs.shape.has_words.Goals as goal

pub returns-clause-words : goal.returns-clause-words
returns-clause-words g c = tests_part _ _ c.args.of words_of (λ n. c.args.at + c.args.count ≤ n) _ c.in-Some.len _ c.in_ok-len.ensures.words c.in-Some.is c.fits.ensures
