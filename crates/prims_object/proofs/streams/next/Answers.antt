use Rattle.std.proofs.Common.{refl, ◌∙◌}
use Rattle.blue_model.specs.Storage.{next}
use Rattle.contexts.proofs.ServesLaws.{serves_then, serves_exit, exits}
use Rattle.prims_object.proofs.TestLaws.{unequal}
use Rattle.prims_object.proofs.streams.next.Goals as goal

pub returns-in_err-stack-clause-serves : goal.returns-in_err-stack-clause-serves
unfolding next
returns-in_err-stack-clause-serves g c = serves_exit _ _ c.in_err-stack.ensures.serves c.from_residual.ensures.1

pub returns-in_err-stream-clause-serves : goal.returns-in_err-stream-clause-serves
unfolding next
returns-in_err-stream-clause-serves g c =
    serves_then _ c.in_ok-stack.ensures.serves
    (exits _ c.from_residual-in_err-stream.ensures.1 ((c.in_err-stream.ensures.leads _) _))

pub returns-in_default-clause-serves : goal.returns-in_default-clause-serves
unfolding next
returns-in_default-clause-serves g c =
    serves_then _ c.in_ok-stack.ensures.serves
    ((rw c.in_default.is at c.in_ok-stream.ensures.leads _) _)

pub returns-in_err-spot-clause-serves : goal.returns-in_err-spot-clause-serves
unfolding next
returns-in_err-spot-clause-serves g c =
    serves_then _ c.in_ok-stack.ensures.serves
    ((rw c.in-Some.is at c.in_ok-stream.ensures.leads _) _ _ _ _
    (exits _ c.from_residual-in_err-spot.ensures.1 ((c.in_err-spot.ensures.leads _) _)))

pub returns-in_default-2-clause-serves : goal.returns-in_default-2-clause-serves
unfolding next
returns-in_default-2-clause-serves g c =
    serves_then _ c.in_ok-stack.ensures.serves
    ((rw c.in-Some.is at c.in_ok-stream.ensures.leads _) _ _ _ _
    ((rw c.in_default-2.is at c.in_ok-spot.ensures.leads _) _))

pub returns-in_err-streamed_element-clause-serves : goal.returns-in_err-streamed_element-clause-serves
unfolding next
returns-in_err-streamed_element-clause-serves g c =
    let array = c.in_ok-spot.ensures.looks.regs 13 refl in
    serves_then _ c.in_ok-stack.ensures.serves
    ((rw c.in-Some.is at c.in_ok-stream.ensures.leads _) _ _ _ _
    ((rw c.in-Some-2.is at c.in_ok-spot.ensures.leads _) _ _ _ _
    (exits _ c.from_residual-in_err-streamed_element.ensures.1 ((rw array at c.in_err-streamed_element.ensures.leads _) _))))

pub returns-then-not-branch-clause-serves : goal.returns-then-not-branch-clause-serves
unfolding next
returns-then-not-branch-clause-serves g c =
    let array = c.in_ok-spot.ensures.looks.regs 13 refl in
    serves_then _ c.in_ok-stack.ensures.serves
    ((rw c.in-Some.is at c.in_ok-stream.ensures.leads _) _ _ _ _
    ((rw c.in-Some-2.is at c.in_ok-spot.ensures.leads _) _ _ _ _
    ((rw (c.if-not-branch.true, array) at c.in_ok-streamed_element.ensures.leads _) _)))

pub returns-clause-serves : goal.returns-clause-serves
unfolding next
returns-clause-serves g c =
    let array = c.in_ok-spot.ensures.looks.regs 13 refl in
    let stream = c.in_ok-streamed_element.ensures.regs 10 (unequal 10 12 refl) (unequal 10 19 refl) ∙ c.in_ok-spot.ensures.looks.regs 10 refl ∙ c.in_ok-stream.ensures.looks.regs 10 refl in
    serves_then _ c.in_ok-stack.ensures.serves
    ((rw c.in-Some.is at c.in_ok-stream.ensures.leads _) _ _ _ _
    ((rw c.in-Some-2.is at c.in_ok-spot.ensures.leads _) _ _ _ _
    ((rw (c.if-not-branch.false, array) at c.in_ok-streamed_element.ensures.leads _) _ _ _ _
    (rw stream at c.advance_and_answer.ensures.serves))))
