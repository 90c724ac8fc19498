use Rattle.object_memory.specs.Calls.{IsFit}
use Rattle.st80_trace.proofs.tracing.follow.Given as goal

abbrev pub invariant-steps : goal.invariant-steps
invariant-steps g l = IsFit g.M.ObjectMemory l.m
