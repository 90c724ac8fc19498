use Rattle.std.proofs.Common.{refl, sym, ◌∙◌}
use Rattle.blue_model.specs.Control.{block_start}
use Rattle.contexts.proofs.ServesLaws.{serves_then, serves_exit}
use Rattle.contexts.proofs.Steps.{pick_true, pick_false, done_serves}
use Rattle.contexts.proofs.ReadLaws.{looks_again}
use Rattle.send_lookup.proofs.ClassLaws.{on_ok}
use Rattle.prims_control.proofs.values.block_start.Goals as goal

pub returns-in_err-class_of-clause-serves : goal.returns-in_err-class_of-clause-serves
unfolding block_start
returns-in_err-class_of-clause-serves g c = λ cpu. serves_exit _ _ (c.in_err-class_of.ensures.serves cpu) c.from_residual.ensures.1

pub returns-then-not-is-clause-serves : goal.returns-then-not-is-clause-serves
unfolding block_start
returns-then-not-is-clause-serves g c = λ cpu.
    let class = c.in_ok-class_of.ensures in
    serves_then _ (class.serves cpu) (pick_false _ _ _ (sym c.is.ensures ∙ c.if-not-is.true) (done_serves class.fit.ready))

pub returns-clause-serves : goal.returns-clause-serves
unfolding block_start
returns-clause-serves g c = λ cpu.
    let class = c.in_ok-class_of.ensures in
    let same = class.looks.regs 10 refl in
    serves_then _ (class.serves cpu) (pick_true _ _ _ (sym c.is.ensures ∙ c.if-not-is.false) (rw same at (c.pointer_for.ensures.serves cpu)))

pub returns-clause-looks : goal.returns-clause-looks
returns-clause-looks g c =
    let class = c.in_ok-class_of.ensures in
    on_ok c.pointer_for.result (λ last. looks_again 19 _ _ _ class.fit.ready class.looks last) c.pointer_for.ensures.looks
