use Rattle.object_memory.specs.Calls.{IsFit}
use Rattle.st80_trace.proofs.stepping.senders.Given as goal

abbrev pub invariant-senders : goal.invariant-senders
invariant-senders g l = IsFit g.M.ObjectMemory l.m
