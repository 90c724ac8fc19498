use Rattle.std.proofs.Common.{arith}
use Rattle.std.proofs.lemmas.Bool.Decides.{nat_tests}
use Rattle.work_space.specs.Space.{from_of, end_of}
use Rattle.work_space.proofs.space.Space.is_link.Goals as goal

pub returns-then-link-self : goal.returns-then-link-self
unfolding from_of end_of
returns-then-link-self c = grind (arith, nat_tests)

pub returns-else-link-self : goal.returns-else-link-self
unfolding from_of end_of
returns-else-link-self c = grind (arith, nat_tests)
