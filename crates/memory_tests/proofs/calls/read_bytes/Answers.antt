use Rattle.object_memory.proofs.Callers.{may_bytes}
use Rattle.object_memory.proofs.ShapeLaws.{has_passed}
use Rattle.memory_tests.proofs.calls.read_bytes.Goals as goal

pub read_bytes-requires-clause-may : goal.read_bytes-requires-clause-may
read_bytes-requires-clause-may g c = may_bytes _ _ _ _ (has_passed c.in_ok-has_bytes.ensures.bytes.after c.if-not-branch.false)
