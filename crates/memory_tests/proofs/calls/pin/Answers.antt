use Rattle.std.proofs.Common.{refl}
use Rattle.object_memory.proofs.Callers.{may_pin}
use Rattle.memory_tests.proofs.calls.pin.Goals as goal

pub pin-requires-clause-may : goal.pin-requires-clause-may
pin-requires-clause-may g c = may_pin _ _ _ c.requires.fit.ready (c.if-not-is_name.ensures.0 refl)
