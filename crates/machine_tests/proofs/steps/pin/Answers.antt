use Rattle.std.proofs.Common.{sym, subst}
use Rattle.long_names.specs.State.{IsRef}
use Rattle.object_memory.proofs.Callers.{may_pin}
use Rattle.machine_tests.proofs.steps.pin.Goals as goal

pub pin-requires-clause-may : goal.pin-requires-clause-may
pin-requires-clause-may g c = may_pin _ _ _ c.in_ok-known.ensures.fit.ready (subst IsRef (sym c.in_ok-known.ensures.name) tt)
