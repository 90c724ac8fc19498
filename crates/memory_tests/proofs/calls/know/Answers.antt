use Rattle.std.proofs.Common.{sym, ◌∙◌}
use Rattle.object_memory.proofs.Callers.{may_known}
use Rattle.memory_tests.proofs.calls.know.Goals as goal

pub known-requires-clause-may : goal.known-requires-clause-may
known-requires-clause-may g c = may_known _ _ _ c.requires.fit.ready (sym c.is_known.ensures ∙ c.if-not-is_known.false)
