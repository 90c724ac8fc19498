use Rattle.std.proofs.Common.{◌≡◌, take}
use Rattle.st80_methods.specs.MethodObjects.{values_of}
use Rattle.st80_methods.proofs.methods.values_of.Given as goal

-- the values of the numbers so far
abbrev pub invariant-loop-number : goal.invariant-loop-number
invariant-loop-number l = l.values ≡ values_of l.pool (take l.number-index l.numbers)
