use Rattle.std.proofs.Common.{[], ◌∷◌, refl, sym, ◌∙◌}
use Rattle.object_memory.proofs.LooksLaws.{Looks-trans}
use Rattle.blue_model.specs.Control.{array_length}
use Rattle.contexts.proofs.ServesLaws.{serves_then, serves_exit}
use Rattle.contexts.proofs.Steps.{pick_true, pick_false, done_serves}
use Rattle.send_lookup.proofs.ClassLaws.{on_ok}
use Rattle.prims_control.proofs.parts.array_length.Goals as goal

pub returns-in_err-class_of-clause-serves : goal.returns-in_err-class_of-clause-serves
unfolding array_length
returns-in_err-class_of-clause-serves g c = λ cpu. serves_exit _ _ (c.in_err-class_of.ensures.serves cpu) c.from_residual.ensures.1

pub returns-then-not-is-clause-serves : goal.returns-then-not-is-clause-serves
unfolding array_length
returns-then-not-is-clause-serves g c = λ cpu.
    let class = c.in_ok-class_of.ensures in
    serves_then _ (class.serves cpu) (pick_false _ _ _ (sym c.is.ensures ∙ c.if-not-is.true) (done_serves class.fit.ready))

pub returns-clause-serves : goal.returns-clause-serves
unfolding array_length
returns-clause-serves g c = λ cpu.
    let class = c.in_ok-class_of.ensures in
    let same = class.looks.regs 12 refl in
    serves_then _ (class.serves cpu) (pick_true _ _ _ (sym c.is.ensures ∙ c.if-not-is.false) (rw same at (c.peek_size.ensures.serves cpu)))

pub returns-clause-looks : goal.returns-clause-looks
returns-clause-looks g c =
    let class = c.in_ok-class_of.ensures in
    on_ok c.peek_size.result (λ last. Looks-trans (19 ∷ []) [] _ _ _ class.fit.ready class.looks last) c.peek_size.ensures.looks
