use Rattle.std.proofs.Common.{[], ◌∷◌, sym, ◌∙◌, refl}
use Rattle.object_memory.proofs.LooksLaws.{Looks-trans}
use Rattle.blue_model.specs.Storage.{streamed_by, streamed}
use Rattle.contexts.proofs.ServesLaws.{serves_then, serves_exit}
use Rattle.contexts.proofs.Steps.{pick_true, pick_false, done_serves}
use Rattle.prims_object.proofs.TestLaws.{on_ok}
use Rattle.prims_object.proofs.streams.streamed.Goals as goal

pub returns-in_err-class_of-clause-serves : goal.returns-in_err-class_of-clause-serves
unfolding streamed
returns-in_err-class_of-clause-serves g c = λ cpu. serves_exit _ _ (c.in_err-class_of.ensures.serves cpu) c.from_residual.ensures.1

pub returns-then-is-clause-serves : goal.returns-then-is-clause-serves
unfolding streamed streamed_by
returns-then-is-clause-serves g c = λ cpu.
    let array = c.in_ok-class_of.ensures.looks.regs 13 refl in
    serves_then _ (c.in_ok-class_of.ensures.serves cpu) (pick_true _ _ _ (sym c.is.ensures ∙ c.if-is.true) (rw array at c.peek_array.ensures.serves cpu))

pub returns-then-is-clause-looks : goal.returns-then-is-clause-looks
returns-then-is-clause-looks g c =
    let class = c.in_ok-class_of.ensures in
    on_ok c.peek_array.result (λ last. Looks-trans (19 ∷ []) [] _ _ _ class.fit.ready class.looks last) c.peek_array.ensures.looks

pub returns-then-is-2-clause-serves : goal.returns-then-is-2-clause-serves
unfolding streamed streamed_by
returns-then-is-2-clause-serves g c = λ cpu.
    let array = c.in_ok-class_of.ensures.looks.regs 13 refl in
    serves_then _ (c.in_ok-class_of.ensures.serves cpu) (pick_false _ _ _ (sym c.is.ensures ∙ c.if-is.false) (pick_true _ _ _ (sym c.is-2.ensures ∙ c.if-is-2.true) (rw array at c.peek_text.ensures.serves cpu)))

pub returns-then-is-2-clause-looks : goal.returns-then-is-2-clause-looks
returns-then-is-2-clause-looks g c =
    let class = c.in_ok-class_of.ensures in
    on_ok c.peek_text.result (λ last. Looks-trans (19 ∷ []) [] _ _ _ class.fit.ready class.looks last) c.peek_text.ensures.looks

pub returns-clause-serves : goal.returns-clause-serves
unfolding streamed streamed_by
returns-clause-serves g c = λ cpu.
    serves_then _ (c.in_ok-class_of.ensures.serves cpu) (pick_false _ _ _ (sym c.is.ensures ∙ c.if-is.false) (pick_false _ _ _ (sym c.is-2.ensures ∙ c.if-is-2.false) (done_serves c.in_ok-class_of.ensures.fit.ready)))
