use Rattle.std.proofs.Common.{ap}
use mir.Syntax.{w128}
use mir.Val.{of_z}
use Rattle.large_ints.proofs.ShiftLaws.{left_past}
use Rattle.large_ints.proofs.values.shifted_left.Goals as goal

pub returns-then-n-gt-LARGE_BITS : goal.returns-then-n-gt-LARGE_BITS
returns-then-n-gt-LARGE_BITS c = left_past c.args.a c.args.n (λ e. c.if-a-eq0.false (ap (λ z. of_z w128 z) e)) c.if-n-gt-LARGE_BITS.true
