use Rattle.blue_model.specs.Contexts.{scheduler}
use Rattle.contexts.proofs.ReadLaws.{exits_with, looks_again}
use Rattle.contexts.proofs.Steps.{serving}
use Rattle.contexts.proofs.context.scheduler.Goals as goal

pub returns-in_err-known-clause-serves : goal.returns-in_err-known-clause-serves
unfolding scheduler
returns-in_err-known-clause-serves g c = λ cpu. exits_with _ _ c.from_residual.ensures.1 (search (serving, c.in_err-known.ensures.serves cpu))

pub returns-in_err-field-clause-serves : goal.returns-in_err-field-clause-serves
unfolding scheduler
returns-in_err-field-clause-serves g c = λ cpu. exits_with _ _ c.from_residual-in_err-field.ensures.1 (search (serving, c.in_ok-known.ensures.serves cpu, c.in_err-field.ensures.serves cpu))

pub returns-clause-serves : goal.returns-clause-serves
unfolding scheduler
returns-clause-serves g c = λ cpu. search (serving, c.in_ok-known.ensures.serves cpu, c.in_ok-field.ensures.serves cpu)

pub returns-clause-looks : goal.returns-clause-looks
returns-clause-looks g c = looks_again _ _ _ _ c.in_ok-known.ensures.fit.ready c.in_ok-known.ensures.looks c.in_ok-field.ensures.looks
