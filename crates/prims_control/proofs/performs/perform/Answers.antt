use Rattle.blue_model.specs.Control.{perform}
use Rattle.contexts.proofs.Steps.{numbers_then}
use Rattle.contexts.proofs.TrialLaws.{true_then, false_fails}
use Rattle.prims_control.proofs.StepLaws.{is_more, is_none}
use Rattle.prims_control.proofs.performs.perform.Goals as goal

pub returns-then-cpu-eq0-clause-serves : goal.returns-then-cpu-eq0-clause-serves
unfolding perform
returns-then-cpu-eq0-clause-serves g c = numbers_then _ (false_fails _ _ c.requires.fit.ready (λ told. is_none _ c.if-cpu-eq0.true))

pub returns-clause-serves : goal.returns-clause-serves
unfolding perform
returns-clause-serves g c = numbers_then _ (true_then _ _ (λ told. is_more _ c.if-cpu-eq0.false) c.perform_with.ensures.serves)
