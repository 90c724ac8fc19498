use Rattle.std.proofs.Common.{refl, ◌∙◌}
use Rattle.blue_model.specs.Storage.{next_put}
use Rattle.contexts.proofs.ServesLaws.{serves_then, serves_exit, exits}
use Rattle.prims_object.proofs.TestLaws.{unequal}
use Rattle.prims_object.proofs.streams.next_put.Goals as goal

pub returns-in_err-stack-clause-serves : goal.returns-in_err-stack-clause-serves
unfolding next_put
returns-in_err-stack-clause-serves g c = serves_exit _ _ c.in_err-stack.ensures.serves c.from_residual.ensures.1

pub returns-in_err-stack-2-clause-serves : goal.returns-in_err-stack-2-clause-serves
unfolding next_put
returns-in_err-stack-2-clause-serves g c =
    serves_then _ c.in_ok-stack.ensures.serves
    (serves_exit _ _ c.in_err-stack-2.ensures.serves c.from_residual-in_err-stack-2.ensures.1)

pub returns-in_err-stream-clause-serves : goal.returns-in_err-stream-clause-serves
unfolding next_put
returns-in_err-stream-clause-serves g c =
    let stream = c.in_ok-stack-2.ensures.looks.regs 10 refl in
    serves_then _ c.in_ok-stack.ensures.serves
    (serves_then _ c.in_ok-stack-2.ensures.serves
    (exits _ c.from_residual-in_err-stream.ensures.1 ((rw stream at c.in_err-stream.ensures.leads _) _)))

pub returns-in_default-clause-serves : goal.returns-in_default-clause-serves
unfolding next_put
returns-in_default-clause-serves g c =
    let stream = c.in_ok-stack-2.ensures.looks.regs 10 refl in
    serves_then _ c.in_ok-stack.ensures.serves
    (serves_then _ c.in_ok-stack-2.ensures.serves
    ((rw (c.in_default.is, stream) at c.in_ok-stream.ensures.leads _) _))

pub returns-in_err-spot-clause-serves : goal.returns-in_err-spot-clause-serves
unfolding next_put
returns-in_err-spot-clause-serves g c =
    let stream = c.in_ok-stack-2.ensures.looks.regs 10 refl in
    serves_then _ c.in_ok-stack.ensures.serves
    (serves_then _ c.in_ok-stack-2.ensures.serves
    ((rw (c.in-Some.is, stream) at c.in_ok-stream.ensures.leads _) _ _ _ _
    (exits _ c.from_residual-in_err-spot.ensures.1 ((c.in_err-spot.ensures.leads _) _))))

pub returns-in_default-2-clause-serves : goal.returns-in_default-2-clause-serves
unfolding next_put
returns-in_default-2-clause-serves g c =
    let stream = c.in_ok-stack-2.ensures.looks.regs 10 refl in
    serves_then _ c.in_ok-stack.ensures.serves
    (serves_then _ c.in_ok-stack-2.ensures.serves
    ((rw (c.in-Some.is, stream) at c.in_ok-stream.ensures.leads _) _ _ _ _
    ((rw c.in_default-2.is at c.in_ok-spot.ensures.leads _) _)))

pub returns-in_err-put_streamed-clause-serves : goal.returns-in_err-put_streamed-clause-serves
unfolding next_put
returns-in_err-put_streamed-clause-serves g c =
    let stream = c.in_ok-stack-2.ensures.looks.regs 10 refl in
    let array = c.in_ok-spot.ensures.looks.regs 13 refl in
    let value = c.in_ok-spot.ensures.looks.regs 12 refl ∙ c.in_ok-stream.ensures.looks.regs 12 refl in
    serves_then _ c.in_ok-stack.ensures.serves
    (serves_then _ c.in_ok-stack-2.ensures.serves
    ((rw (c.in-Some.is, stream) at c.in_ok-stream.ensures.leads _) _ _ _ _
    ((rw c.in-Some-2.is at c.in_ok-spot.ensures.leads _) _ _ _ _
    (exits _ c.from_residual-in_err-put_streamed.ensures.1 ((rw (array, value) at c.in_err-put_streamed.ensures.leads _) _)))))

pub returns-then-not-branch-clause-serves : goal.returns-then-not-branch-clause-serves
unfolding next_put
returns-then-not-branch-clause-serves g c =
    let stream = c.in_ok-stack-2.ensures.looks.regs 10 refl in
    let array = c.in_ok-spot.ensures.looks.regs 13 refl in
    let value = c.in_ok-spot.ensures.looks.regs 12 refl ∙ c.in_ok-stream.ensures.looks.regs 12 refl in
    serves_then _ c.in_ok-stack.ensures.serves
    (serves_then _ c.in_ok-stack-2.ensures.serves
    ((rw (c.in-Some.is, stream) at c.in_ok-stream.ensures.leads _) _ _ _ _
    ((rw c.in-Some-2.is at c.in_ok-spot.ensures.leads _) _ _ _ _
    ((rw (c.if-not-branch.true, array, value) at c.in_ok-put_streamed.ensures.leads _) _))))

pub returns-clause-serves : goal.returns-clause-serves
unfolding next_put
returns-clause-serves g c =
    let stream = c.in_ok-stack-2.ensures.looks.regs 10 refl in
    let array = c.in_ok-spot.ensures.looks.regs 13 refl in
    let value = c.in_ok-spot.ensures.looks.regs 12 refl ∙ c.in_ok-stream.ensures.looks.regs 12 refl in
    let stream-5 = c.in_ok-put_streamed.ensures.regs 10 (unequal 10 18 refl) (unequal 10 19 refl) ∙ c.in_ok-spot.ensures.looks.regs 10 refl ∙ c.in_ok-stream.ensures.looks.regs 10 refl ∙ stream in
    let value-5 = c.in_ok-put_streamed.ensures.regs 12 (unequal 12 18 refl) (unequal 12 19 refl) ∙ value in
    serves_then _ c.in_ok-stack.ensures.serves
    (serves_then _ c.in_ok-stack-2.ensures.serves
    ((rw (c.in-Some.is, stream) at c.in_ok-stream.ensures.leads _) _ _ _ _
    ((rw c.in-Some-2.is at c.in_ok-spot.ensures.leads _) _ _ _ _
    ((rw (c.if-not-branch.false, array, value) at c.in_ok-put_streamed.ensures.leads _) _ _ _ _
    (rw (stream-5, value-5) at c.advance_and_answer.ensures.serves)))))
