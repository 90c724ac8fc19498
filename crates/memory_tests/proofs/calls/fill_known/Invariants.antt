use Rattle.std.specs.Prelude.{◌≡◌, ◌<◌}
use Rattle.object_memory.specs.Calls.{IsFit}
use Rattle.memory_tests.proofs.calls.fill_known.Given as goal

abbrev pub invariant-loop-name : goal.invariant-loop-name
invariant-loop-name g l = IsFit g.M.ObjectMemory l.m × (g.M.ObjectMemory.lender l.m ≡ g.M.ObjectMemory.lender l.fn.m) × (g.M.ObjectMemory.outside l.m ≡ g.M.ObjectMemory.outside l.fn.m) × (l.to < 24)
