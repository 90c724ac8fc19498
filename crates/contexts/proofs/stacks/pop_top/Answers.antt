use Rattle.blue_model.specs.Contexts.{pop_top}
use Rattle.contexts.proofs.ReadLaws.{exits_with}
use Rattle.contexts.proofs.Steps.{serving}
use Rattle.contexts.proofs.stacks.pop_top.Goals as goal

pub returns-in_err-stack-clause-serves : goal.returns-in_err-stack-clause-serves
unfolding pop_top
returns-in_err-stack-clause-serves g c = exits_with _ _ c.from_residual.ensures.1 (search (serving, c.in_err-stack.ensures.serves))

pub returns-in_err-pop-clause-serves : goal.returns-in_err-pop-clause-serves
unfolding pop_top
returns-in_err-pop-clause-serves g c = exits_with _ _ c.from_residual-in_err-pop.ensures.1 (search (serving, c.in_ok-stack.ensures.serves, c.in_err-pop.ensures.serves _ c.in_ok-stack.ensures.fit.ready) depth 10)

pub returns-clause-serves : goal.returns-clause-serves
unfolding pop_top
returns-clause-serves g c = search (serving, c.in_ok-stack.ensures.serves, c.in_ok-pop.ensures.serves _ c.in_ok-stack.ensures.fit.ready, c.in_ok-stack.ensures.fit.ready) depth 10
