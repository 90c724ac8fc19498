use Rattle.blue_model.specs.Trials.{answer}
use Rattle.contexts.proofs.ServesLaws.{serves_then, serves_exit}
use Rattle.contexts.proofs.Steps.{done_serves}
use Rattle.contexts.proofs.answers.answer.Goals as goal

pub returns-in_err-pop-clause-serves : goal.returns-in_err-pop-clause-serves
unfolding answer
returns-in_err-pop-clause-serves g c = serves_exit _ _ (c.in_err-pop.ensures.serves _ c.requires.fit.ready) c.from_residual.ensures.1

pub returns-in_err-push-clause-serves : goal.returns-in_err-push-clause-serves
unfolding answer
returns-in_err-push-clause-serves g c = serves_then _ (c.in_ok-pop.ensures.serves _ c.requires.fit.ready) (serves_exit _ _ c.in_err-push.ensures.serves c.from_residual-in_err-push.ensures.1)

pub returns-clause-serves : goal.returns-clause-serves
unfolding answer
returns-clause-serves g c = serves_then _ (c.in_ok-pop.ensures.serves _ c.requires.fit.ready) (serves_then _ c.in_ok-push.ensures.serves (done_serves c.in_ok-push.ensures.fit.ready))
