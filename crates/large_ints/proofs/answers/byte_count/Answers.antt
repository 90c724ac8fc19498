use Rattle.std.proofs.Common.{arith}
use Rattle.large_ints.proofs.AnswerLaws.{left_first, left_next, left_none}
use Rattle.large_ints.proofs.answers.byte_count.Goals as goal

pub loop-rest-init : goal.loop-rest-init
loop-rest-init c = record { left = left_first c.args.n c.ranges.n.fits }

pub loop-rest-preserved : goal.loop-rest-preserved
loop-rest-preserved c = record { left = left_next _ _ _ c.loop-rest-test.true c.loop-rest.invariant.left }

pub returns-clause-count : goal.returns-clause-count
returns-clause-count c = left_none c.args.n _ c.loop-rest.rest (omega (arith, c.loop-rest-test.false)) c.loop-rest.invariant.left

pub returns-clause-few : goal.returns-clause-few
returns-clause-few c = c.loop-rest.invariant.left.few
