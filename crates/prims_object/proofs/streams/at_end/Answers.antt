use Rattle.blue_model.specs.Storage.{at_end}
use Rattle.contexts.proofs.ServesLaws.{serves_then, serves_exit, exits}
use Rattle.contexts.proofs.TrialLaws.{found_then, none_found, finding_exit}
use Rattle.prims_object.proofs.streams.at_end.Goals as goal

pub returns-in_err-stack-clause-serves : goal.returns-in_err-stack-clause-serves
unfolding at_end
returns-in_err-stack-clause-serves g c = serves_exit _ _ c.in_err-stack.ensures.serves c.from_residual.ensures.1

pub returns-in_err-stream-clause-serves : goal.returns-in_err-stream-clause-serves
unfolding at_end
returns-in_err-stream-clause-serves g c =
    serves_then _ c.in_ok-stack.ensures.serves
    (exits _ c.from_residual-in_err-stream.ensures.1 ((c.in_err-stream.ensures.leads _) _))

pub returns-in_default-clause-serves : goal.returns-in_default-clause-serves
unfolding at_end
returns-in_default-clause-serves g c =
    serves_then _ c.in_ok-stack.ensures.serves
    ((rw c.in_default.is at c.in_ok-stream.ensures.leads _) _)

pub returns-in_err-len-clause-serves : goal.returns-in_err-len-clause-serves
unfolding at_end
returns-in_err-len-clause-serves g c =
    serves_then _ c.in_ok-stack.ensures.serves
    ((rw c.in-Some.is at c.in_ok-stream.ensures.leads _) _ _ _ _
    (finding_exit _ _ (c.in_err-len.ensures.serves _) c.from_residual-in_err-len.ensures.1))

pub returns-in_default-2-clause-serves : goal.returns-in_default-2-clause-serves
unfolding at_end
returns-in_default-2-clause-serves g c =
    serves_then _ c.in_ok-stack.ensures.serves
    ((rw c.in-Some.is at c.in_ok-stream.ensures.leads _) _ _ _ _
    (none_found _ c.in_default-2.is (c.in_ok-len.ensures.serves _)))

pub returns-in_err-boolean-clause-serves : goal.returns-in_err-boolean-clause-serves
unfolding at_end
returns-in_err-boolean-clause-serves g c =
    serves_then _ c.in_ok-stack.ensures.serves
    ((rw c.in-Some.is at c.in_ok-stream.ensures.leads _) _ _ _ _
    (found_then _ c.in-Some-2.is (c.in_ok-len.ensures.serves _)
    (serves_exit _ _ (rw c.has_ended.ensures at c.in_err-boolean.ensures.serves _) c.from_residual-in_err-boolean.ensures.1)))

pub returns-clause-serves : goal.returns-clause-serves
unfolding at_end
returns-clause-serves g c =
    serves_then _ c.in_ok-stack.ensures.serves
    ((rw c.in-Some.is at c.in_ok-stream.ensures.leads _) _ _ _ _
    (found_then _ c.in-Some-2.is (c.in_ok-len.ensures.serves _)
    (serves_then _ (rw c.has_ended.ensures at c.in_ok-boolean.ensures.serves _)
    (c.answer.ensures.serves))))
