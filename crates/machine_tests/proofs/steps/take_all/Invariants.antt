use Rattle.object_memory.specs.Calls.{IsFit}
use Rattle.machine_tests.proofs.steps.take_all.Given as goal

abbrev pub invariant-loop-step : goal.invariant-loop-step
invariant-loop-step g l = IsFit g.M.ObjectMemory l.m
