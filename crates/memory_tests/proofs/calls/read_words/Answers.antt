use Rattle.object_memory.proofs.Callers.{may_words}
use Rattle.object_memory.proofs.ShapeLaws.{has_passed}
use Rattle.memory_tests.proofs.calls.read_words.Goals as goal

pub read_words-requires-clause-may : goal.read_words-requires-clause-may
read_words-requires-clause-may g c = may_words _ _ _ _ (has_passed c.in_ok-has_words.ensures.words.after c.if-not-branch.false)
