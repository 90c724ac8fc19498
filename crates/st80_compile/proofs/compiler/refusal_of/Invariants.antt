use Rattle.std.proofs.Common.{◌≡◌, drop}
use Rattle.st80_compile.specs.Bytes.{refusal_of}
use Rattle.st80_compile.proofs.compiler.refusal_of.Given as goal

-- none of the instructions so far is refused
abbrev pub invariant-loop-step : goal.invariant-loop-step
invariant-loop-step l = refusal_of l.temporaries l.literals l.steps ≡ refusal_of l.temporaries l.literals (drop l.step-index l.steps)
