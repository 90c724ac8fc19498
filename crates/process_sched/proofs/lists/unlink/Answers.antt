use Rattle.std.proofs.Common.{refl, sym, ◌∙◌}
use Rattle.contexts.proofs.Steps.{pick_true, pick_false}
use Rattle.process_sched.proofs.ValueLaws.{same_is}
use Rattle.process_sched.proofs.lists.unlink.Goals as goal

pub returns-then-same-clause-serves : goal.returns-then-same-clause-serves
returns-then-same-clause-serves g c = λ cpu. pick_true _ _ _ (sym (same_is _ _ _ _ refl c.same.ensures) ∙ c.if-same.true) (c.empty_list.ensures.serves cpu)

pub returns-else-same-clause-serves : goal.returns-else-same-clause-serves
returns-else-same-clause-serves g c = λ cpu. pick_false _ _ _ (sym (same_is _ _ _ _ refl c.same.ensures) ∙ c.if-same.false) (c.shorten.ensures.serves cpu)
