use Rattle.std.proofs.Common.{sym, ◌∙◌}
use Rattle.blue_model.specs.Devices.{semaphore_or_nil}
use Rattle.contexts.proofs.ServesLaws.{serves_then, serves_stop, exits}
use Rattle.contexts.proofs.Steps.{pick_true, pick_false, done_serves, done_same}
use Rattle.devices.proofs.input.semaphore_or_nil.Goals as goal

pub returns-then-is-clause-serves : goal.returns-then-is-clause-serves
unfolding semaphore_or_nil
returns-then-is-clause-serves g c = λ cpu. pick_true _ _ _ (sym c.is.ensures ∙ c.if-is.true) (done_serves c.requires.fit.ready)

pub returns-in_err-size-clause-serves : goal.returns-in_err-size-clause-serves
unfolding semaphore_or_nil
returns-in_err-size-clause-serves g c = λ cpu. exits _ c.from_residual.ensures.1 (pick_false _ _ _ (sym c.is.ensures ∙ c.if-is.false) (serves_stop _ (c.in_err-size.ensures.serves cpu)))

pub returns-clause-serves : goal.returns-clause-serves
unfolding semaphore_or_nil
returns-clause-serves g c = λ cpu. pick_false _ _ _ (sym c.is.ensures ∙ c.if-is.false) (serves_then _ (c.in_ok-size.ensures.serves cpu) (done_same c.there_by.ensures c.in_ok-size.ensures.fit.ready))
