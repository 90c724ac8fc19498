use Rattle.std.specs.Prelude.{◌≡◌}
use Rattle.object_memory.specs.Calls.{IsFit}
use Rattle.memory_tests.proofs.runs.agree.Given as goal

abbrev pub invariant-loop-step : goal.invariant-loop-step
invariant-loop-step g l = IsFit g.M.ObjectMemory l.m × IsFit g.P.ObjectMemory l.plain
