use Rattle.blue_model.specs.Contexts.{pop}
use Rattle.contexts.proofs.Steps.{numbers_then, given_then, given_stuck, set_numbers_at}
use Rattle.contexts.proofs.stacks.pop.Goals as goal

pub returns-then-not-lower : goal.returns-then-not-lower
unfolding pop
returns-then-not-lower c = record { serves = λ t ready. numbers_then _ (given_stuck _ _ (λ told. c.if-not-lower.ensures.lowered)) }

pub returns : goal.returns
unfolding pop
returns c = record { serves = λ t ready. numbers_then _ (given_then _ _ _ _ (λ told. c.if-not-lower.ensures.lowered) (set_numbers_at _ c.if-not-lower.ensures.rest (λ may. may) ready)) }
