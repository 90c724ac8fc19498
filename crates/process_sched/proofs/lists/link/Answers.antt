use Rattle.std.proofs.Common.{sym, ◌∙◌}
use Rattle.contexts.proofs.ServesLaws.{exits}
use Rattle.contexts.proofs.Steps.{pick_true, pick_false}
use Rattle.process_sched.proofs.lists.link.Goals as goal

pub returns-in_err-store_field-clause-serves : goal.returns-in_err-store_field-clause-serves
returns-in_err-store_field-clause-serves g c = λ cpu. pick_true _ _ _ (sym c.is.ensures ∙ c.if-is.true) (exits _ c.from_residual.ensures.1 (c.in_err-store_field.ensures.serves cpu))

pub returns-then-is-clause-serves : goal.returns-then-is-clause-serves
returns-then-is-clause-serves g c = λ cpu. pick_true _ _ _ (sym c.is.ensures ∙ c.if-is.true) (c.in_ok-store_field.ensures.serves cpu)

pub returns-clause-serves : goal.returns-clause-serves
returns-clause-serves g c = λ cpu. pick_false _ _ _ (sym c.is.ensures ∙ c.if-is.false) (c.link_behind.ensures.serves cpu)
