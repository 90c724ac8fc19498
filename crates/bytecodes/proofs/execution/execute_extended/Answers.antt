use Rattle.std.proofs.Common.{refl, sym, ◌∙◌}
use Rattle.object_memory.proofs.ShapeLaws.{small_number}
use Rattle.blue_model.specs.Sends.{execute_extended}
use Rattle.contexts.proofs.ServesLaws.{speaks_quiet, serves_then, serves_exit}
use Rattle.contexts.proofs.Steps.{pick_true, pick_false, done_serves}
use Rattle.contexts.proofs.SpeaksLaws.{speaks_failed, speaks_then, speaks_exit, goes_done, goes_false}
use Rattle.bytecodes.proofs.TryLaws.{not_failed}
use Rattle.devices.proofs.KeepLaws.{keeps_never}
use Rattle.bytecodes.proofs.execution.execute_extended.Goals as goal

pub returns-in_err-extension-clause-serves : goal.returns-in_err-extension-clause-serves
unfolding execute_extended
returns-in_err-extension-clause-serves g c = serves_exit _ _ (c.in_err-extension.ensures.serves _) c.from_residual.ensures.1

pub returns-then-is_none-clause-serves : goal.returns-then-is_none-clause-serves
unfolding execute_extended
returns-then-is_none-clause-serves g c =
    let z = small_number _ c.in_ok-extension.ensures.range in
    let index = rw z at c.primitive-index.ensures in
    serves_then _ (c.in_ok-extension.ensures.serves _) (pick_true _ _ _ (sym (rw index at c.is_none.ensures) ∙ c.if-is_none.true) (speaks_quiet c.activated.ensures.serves))

pub returns-in_err-answer-clause-serves : goal.returns-in_err-answer-clause-serves
unfolding execute_extended
returns-in_err-answer-clause-serves g c =
    let z = small_number _ c.in_ok-extension.ensures.range in
    let index = rw z at c.primitive-index.ensures in
    serves_then _ (c.in_ok-extension.ensures.serves _) (pick_false _ _ _ (sym (rw index at c.is_none.ensures) ∙ c.if-is_none.false) (speaks_exit _ _ (rw index at c.in_err-answer.ensures.serves) (goes_false _ _ _ refl goes_done) c.from_residual-in_err-answer.ensures.1))

pub returns-then-has_failed-clause-serves : goal.returns-then-has_failed-clause-serves
unfolding execute_extended
returns-then-has_failed-clause-serves g c =
    let z = small_number _ c.in_ok-extension.ensures.range in
    let index = rw z at c.primitive-index.ensures in
    let failed = sym c.has_failed.ensures ∙ c.if-has_failed.true in
    serves_then _ (c.in_ok-extension.ensures.serves _) (pick_false _ _ _ (sym (rw index at c.is_none.ensures) ∙ c.if-is_none.false) (speaks_failed _ (rw index at c.in_ok-answer.ensures.serves) (not_failed _ failed)
    (pick_true _ _ _ failed (speaks_quiet c.activated-then-has_failed.ensures.serves))))

pub returns-clause-serves : goal.returns-clause-serves
unfolding execute_extended
returns-clause-serves g c =
    let z = small_number _ c.in_ok-extension.ensures.range in
    let index = rw z at c.primitive-index.ensures in
    serves_then _ (c.in_ok-extension.ensures.serves _) (pick_false _ _ _ (sym (rw index at c.is_none.ensures) ∙ c.if-is_none.false) (speaks_then _ (rw index at c.in_ok-answer.ensures.serves)
    (pick_false _ _ _ (sym c.has_failed.ensures ∙ c.if-has_failed.false) (done_serves c.in_ok-answer.ensures.fit.ready)) (λ e. e)))

pub returns-then-is_none-clause-keeps : goal.returns-then-is_none-clause-keeps
returns-then-is_none-clause-keeps g c = keeps_never _ _ c.activated.ensures.never_keeps

pub returns-then-has_failed-clause-keeps : goal.returns-then-has_failed-clause-keeps
returns-then-has_failed-clause-keeps g c = keeps_never _ _ c.activated-then-has_failed.ensures.never_keeps
