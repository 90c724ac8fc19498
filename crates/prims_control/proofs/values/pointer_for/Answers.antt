use Rattle.std.proofs.Common.{refl, sym, ◌∙◌}
use Rattle.blue_model.specs.Control.{pointer_for}
use Rattle.contexts.proofs.ServesLaws.{serves_then, serves_exit}
use Rattle.contexts.proofs.Steps.{pick_true, pick_false, done_serves}
use Rattle.contexts.proofs.ReadLaws.{looks_again}
use Rattle.send_lookup.proofs.ClassLaws.{on_ok}
use Rattle.prims_control.proofs.values.pointer_for.Goals as goal

pub returns-in_err-count-clause-serves : goal.returns-in_err-count-clause-serves
unfolding pointer_for
returns-in_err-count-clause-serves g c = λ cpu. serves_exit _ _ (c.in_err-count.ensures.serves cpu) c.from_residual.ensures.1

pub returns-then-not-states-clause-serves : goal.returns-then-not-states-clause-serves
unfolding pointer_for
returns-then-not-states-clause-serves g c = λ cpu. serves_then _ (c.in_ok-count.ensures.serves cpu) (pick_false _ _ _ (sym c.states.ensures.states ∙ c.if-not-states.true) (done_serves c.in_ok-count.ensures.fit.ready))

pub returns-clause-serves : goal.returns-clause-serves
unfolding pointer_for
returns-clause-serves g c = λ cpu.
    let same = c.in_ok-count.ensures.looks.regs 10 refl in
    serves_then _ (c.in_ok-count.ensures.serves cpu) (pick_true _ _ _ (sym c.states.ensures.states ∙ c.if-not-states.false) (rw same at (c.peek_number-2.ensures.serves cpu)))

pub returns-clause-looks : goal.returns-clause-looks
returns-clause-looks g c =
    let count = c.in_ok-count.ensures in
    on_ok c.peek_number-2.result (λ last. looks_again 19 _ _ _ count.fit.ready count.looks last) c.peek_number-2.ensures.looks
