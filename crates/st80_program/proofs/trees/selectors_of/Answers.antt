use Rattle.std.proofs.Common.{arith}
use Rattle.st80_program.proofs.Selectors.{has_selector}
use Rattle.st80_program.proofs.trees.selectors_of.Goals as goal

pub returns-clause-all : goal.returns-clause-all
returns-clause-all c = λ n a. has_selector c.each.has c.args.methods.now (λ k d low. c.each.invariant.1 k d (let end = c.each-test.false in omega (arith, low, end))) n a
