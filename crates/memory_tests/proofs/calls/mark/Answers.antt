use Rattle.std.proofs.Common.{refl}
use Rattle.object_memory.proofs.Callers.{may_mark}
use Rattle.memory_tests.proofs.calls.mark.Goals as goal

pub mark-requires-clause-may : goal.mark-requires-clause-may
mark-requires-clause-may g c = may_mark _ _ c.requires.fit.ready (c.if-not-is_name.ensures.0 refl)
