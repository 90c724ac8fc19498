use Rattle.std.specs.Prelude.{◌≡◌}
use Rattle.object_memory.specs.Calls.{IsFit}
use Rattle.memory_tests.proofs.lookups.make_classes.Given as goal

abbrev pub invariant-loop : goal.invariant-loop
invariant-loop g l = IsFit g.M.ObjectMemory l.m × (g.M.ObjectMemory.lender l.m ≡ g.M.ObjectMemory.lender l.fn.m) × (g.M.ObjectMemory.outside l.m ≡ g.M.ObjectMemory.outside l.fn.m)
