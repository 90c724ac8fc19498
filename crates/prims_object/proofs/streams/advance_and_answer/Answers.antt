use Rattle.std.proofs.Common.{refl}
use Rattle.contexts.proofs.ServesLaws.{serves_then, serves_exit}
use Rattle.prims_object.proofs.TestLaws.{unequal}
use Rattle.prims_object.proofs.streams.advance_and_answer.Goals as goal

pub returns-in_err-advance-clause-serves : goal.returns-in_err-advance-clause-serves
returns-in_err-advance-clause-serves g c = serves_exit _ _ (c.in_err-advance.ensures.serves _) c.from_residual.ensures.1

pub returns-clause-serves : goal.returns-clause-serves
returns-clause-serves g c =
    let value = c.in_ok-advance.ensures.regs 12 (unequal 12 19 refl) in
    serves_then _ (c.in_ok-advance.ensures.serves _) (rw value at c.answer.ensures.serves)
