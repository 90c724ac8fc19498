use Rattle.large_ints.proofs.AnswerLaws.{IsLeft}
use Rattle.large_ints.proofs.answers.byte_count.Given as goal

abbrev pub invariant-loop-rest : goal.invariant-loop-rest
invariant-loop-rest l = record { left : IsLeft l.fn.n l.count l.rest }

abbrev pub decreases-loop-rest : goal.decreases-loop-rest
decreases-loop-rest l = l.rest
