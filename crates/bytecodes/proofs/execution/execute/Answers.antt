use Rattle.std.proofs.Common.{refl, sym, ◌∙◌, ap}
use Rattle.blue_model.specs.Primitives.{step_of}
use Rattle.blue_model.specs.Sends.{execute}
use Rattle.contexts.proofs.Steps.{pick_true, pick_false, done_same}
use Rattle.contexts.proofs.SpeaksLaws.{speaks_failed, speaks_then, speaks_exit, goes_done, goes_false}
use Rattle.bytecodes.proofs.TryLaws.{not_executed}
use Rattle.bytecodes.proofs.KeepLaws.{steps_after}
use Rattle.bytecodes.proofs.execution.execute.Goals as goal

pub returns-in_err-answer-clause-serves : goal.returns-in_err-answer-clause-serves
unfolding execute
returns-in_err-answer-clause-serves g c = speaks_exit _ _ c.in_err-answer.ensures.serves (goes_false _ _ _ refl goes_done) c.from_residual.ensures.1

pub returns-in_err-last-clause-serves : goal.returns-in_err-last-clause-serves
unfolding execute
returns-in_err-last-clause-serves g c =
    let found = sym c.is_execute.ensures ∙ c.if-is_execute.true in
    speaks_failed _ c.in_ok-answer.ensures.serves (not_executed _ found)
    (pick_true _ _ _ found (speaks_exit _ _ c.in_err-last.ensures.serves goes_done c.from_residual-in_err-last.ensures.1))

pub returns-then-is_execute-clause-serves : goal.returns-then-is_execute-clause-serves
unfolding execute
returns-then-is_execute-clause-serves g c =
    let found = sym c.is_execute.ensures ∙ c.if-is_execute.true in
    let last = done_same c.step_of.ensures c.in_ok-last.ensures.fit.ready in
    speaks_failed _ c.in_ok-answer.ensures.serves (not_executed _ found)
    (pick_true _ _ _ found (speaks_then _ c.in_ok-last.ensures.serves last (λ e. c.step_of.ensures ∙ ap step_of e)))

pub returns-clause-serves : goal.returns-clause-serves
unfolding execute
returns-clause-serves g c =
    let last = done_same c.step_of-2.ensures c.in_ok-answer.ensures.fit.ready in
    speaks_then _ c.in_ok-answer.ensures.serves (pick_false _ _ _ (sym c.is_execute.ensures ∙ c.if-is_execute.false) last) (λ e. c.step_of-2.ensures ∙ ap step_of e)

pub returns-then-is_execute-clause-keeps : goal.returns-then-is_execute-clause-keeps
returns-then-is_execute-clause-keeps g c = steps_after _ _ c.in_ok-answer.ensures.serves.vault c.step_of.ensures c.in_ok-last.ensures.keeps

pub returns-clause-keeps : goal.returns-clause-keeps
returns-clause-keeps g c = steps_after _ _ (λ may. may) c.step_of-2.ensures c.in_ok-answer.ensures.keeps
