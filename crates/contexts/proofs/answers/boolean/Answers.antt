use Rattle.blue_model.specs.Trials.{boolean}
use Rattle.contexts.proofs.Steps.{pick_true, pick_false}
use Rattle.contexts.proofs.answers.boolean.Goals as goal

pub returns-then-b-clause-serves : goal.returns-then-b-clause-serves
unfolding boolean
returns-then-b-clause-serves g c = λ cpu. pick_true _ _ _ c.if-b.true (c.known.ensures.serves cpu)

pub returns-else-b-clause-serves : goal.returns-else-b-clause-serves
unfolding boolean
returns-else-b-clause-serves g c = λ cpu. pick_false _ _ _ c.if-b.false (c.known-else-b.ensures.serves cpu)
