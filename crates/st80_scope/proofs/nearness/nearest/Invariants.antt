use Rattle.std.proofs.Common.{◌≤◌, ◌<◌, IfSome, length}
use Rattle.st80_scope.proofs.nearness.nearest.Given as goal

abbrev pub invariant-loop-i : goal.invariant-loop-i
invariant-loop-i l = (l.least ≤ l.below) × IfSome l.best (λ one. (one.0 < length l.among) × (one.1 < l.below))
