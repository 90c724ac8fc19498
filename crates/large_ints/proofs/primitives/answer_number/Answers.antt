use mir.Syntax.{w128}
use Rattle.std.proofs.lemmas.Int.{to_z-of_z}
use Rattle.contexts.proofs.ServesLaws.{serves_then, serves_exit}
use Rattle.large_ints.proofs.primitives.answer_number.Goals as goal

pub returns-in_err-large_answer-clause-serves : goal.returns-in_err-large_answer-clause-serves
returns-in_err-large_answer-clause-serves g c = serves_exit _ _ (rw (to_z-of_z w128 _ c.ranges.z) at (c.in_err-large_answer.ensures.serves c.args.cpu.now)) c.from_residual.ensures.1

pub returns-clause-serves : goal.returns-clause-serves
returns-clause-serves g c = serves_then _ (rw (to_z-of_z w128 _ c.ranges.z) at (c.in_ok-large_answer.ensures.serves c.args.cpu.now)) c.answer.ensures.serves
