use Rattle.std.proofs.Common.{◌≡◌, take}
use Rattle.st80_compile.specs.Bytes.{spelled}
use Rattle.st80_compile.proofs.compiler.spelled.Given as goal

-- the bytes of the instructions so far
abbrev pub invariant-loop-step : goal.invariant-loop-step
invariant-loop-step l = l.code.items ≡ spelled (take l.step-index l.steps)
