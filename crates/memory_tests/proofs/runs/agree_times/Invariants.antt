use Rattle.std.specs.Prelude.{◌≡◌}
use Rattle.object_memory.specs.Calls.{IsFit}
use Rattle.memory_tests.proofs.runs.agree_times.Given as goal

abbrev pub invariant-loop : goal.invariant-loop
invariant-loop g l = IsFit g.M.ObjectMemory l.m × IsFit g.P.ObjectMemory l.plain
