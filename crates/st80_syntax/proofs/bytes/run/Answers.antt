use Rattle.std.proofs.Common.{arith, sym}
use Rattle.st80_syntax.proofs.RunLaws.{run_ends, run_on, run_stops}
use Rattle.st80_syntax.proofs.bytes.run.Goals as goal

pub returns-then-not-is_in-clause-is : goal.returns-then-not-is_in-clause-is
returns-then-not-is_in-clause-is c = run_stops _ _ _ c.each-test.true (sym c.if-not-is_in.ensures) c.each.invariant.0

pub each-preserved : goal.each-preserved
each-preserved c = (run_on _ _ _ c.each-test.true (sym c.if-not-is_in.ensures) c.each.invariant.0, omega (arith, c.each-test.true))

pub returns-clause-is : goal.returns-clause-is
returns-clause-is c = run_ends _ _ _ c.each-test.false c.each.invariant.0
