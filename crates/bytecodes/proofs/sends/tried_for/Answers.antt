use Rattle.std.proofs.Common.{refl, sym, ◌∙◌, ap}
use Rattle.blue_model.specs.Primitives.{step_of, tried}
use Rattle.blue_model.specs.Bytecodes.{tried_for}
use Rattle.contexts.proofs.ServesLaws.{serves_then}
use Rattle.contexts.proofs.Steps.{pick_true, pick_false, done_same}
use Rattle.contexts.proofs.SpeaksLaws.{speaks_failed, speaks_then, speaks_exit, goes_done, goes_false}
use Rattle.bytecodes.proofs.TryLaws.{not_failed}
use Rattle.bytecodes.proofs.KeepLaws.{keeps_after, steps_after}
use Rattle.bytecodes.proofs.sends.tried_for.Goals as goal

pub returns-in_err-answer-clause-serves : goal.returns-in_err-answer-clause-serves
unfolding tried_for tried
returns-in_err-answer-clause-serves g c = serves_then _ (c.set_arguments.ensures.serves _ c.requires.fit.ready) (speaks_exit _ _ c.in_err-answer.ensures.serves (goes_false _ _ _ refl goes_done) c.from_residual.ensures.1)

pub returns-then-has_failed-clause-serves : goal.returns-then-has_failed-clause-serves
unfolding tried_for tried
returns-then-has_failed-clause-serves g c =
    let failed = sym c.has_failed.ensures ∙ c.if-has_failed.true in
    serves_then _ (c.set_arguments.ensures.serves _ c.requires.fit.ready) (speaks_failed _ c.in_ok-answer.ensures.serves (not_failed _ failed)
    (pick_true _ _ _ failed c.special_send.ensures.serves))

pub returns-clause-serves : goal.returns-clause-serves
unfolding tried_for tried
returns-clause-serves g c =
    serves_then _ (c.set_arguments.ensures.serves _ c.requires.fit.ready) (speaks_then _ c.in_ok-answer.ensures.serves
    (pick_false _ _ _ (sym c.has_failed.ensures ∙ c.if-has_failed.false) (done_same c.step_of.ensures c.in_ok-answer.ensures.fit.ready)) (λ e. c.step_of.ensures ∙ ap step_of e))

pub returns-then-has_failed-clause-keeps : goal.returns-then-has_failed-clause-keeps
returns-then-has_failed-clause-keeps g c = keeps_after _ _ _ (λ may. (c.set_arguments.ensures.serves _ c.requires.fit.ready).vault (c.in_ok-answer.ensures.serves.vault may)) c.special_send.ensures.keeps

pub returns-clause-keeps : goal.returns-clause-keeps
returns-clause-keeps g c = steps_after _ _ (c.set_arguments.ensures.serves _ c.requires.fit.ready).vault c.step_of.ensures c.in_ok-answer.ensures.keeps
