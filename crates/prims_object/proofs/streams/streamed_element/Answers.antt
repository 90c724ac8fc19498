use Rattle.std.proofs.Common.{refl, ◌∙◌}
use Rattle.blue_model.specs.Storage.{streamed_element}
use Rattle.contexts.proofs.ServesLaws.{serves_then, serves_stop}
use Rattle.contexts.proofs.Steps.{pick_true, pick_false}
use Rattle.contexts.proofs.TrialLaws.{found_then, none_found, finding_stopped}
use Rattle.prims_object.proofs.LeadLaws.{found_exit, leads_found, leads_through}
use Rattle.prims_object.proofs.TestLaws.{on_ok, not_both}
use Rattle.prims_object.proofs.streams.streamed_element.Goals as goal

pub returns-in_err-byte-clause-leads : goal.returns-in_err-byte-clause-leads
unfolding streamed_element
returns-in_err-byte-clause-leads g c = λ cpu. found_exit _ _ _ c.from_residual.ensures.1 (λ rest. pick_true _ _ _ c.if-text.true (finding_stopped _ (c.in_err-byte.ensures.serves cpu)))

pub returns-in_default-clause-leads : goal.returns-in_default-clause-leads
unfolding streamed_element
returns-in_default-clause-leads g c = λ cpu rest. pick_true _ _ _ c.if-text.true (none_found _ c.in_default.is (c.in_ok-byte.ensures.serves cpu))

pub returns-in_default-clause-regs : goal.returns-in_default-clause-regs
returns-in_default-clause-regs g c = λ r apart other. c.in_ok-byte.ensures.looks.regs r refl

pub returns-then-text-clause-leads : goal.returns-then-text-clause-leads
unfolding streamed_element
returns-then-text-clause-leads g c = λ cpu. leads_through _ _ _ _ _ (λ rest later now answer next. pick_true _ _ _ c.if-text.true (found_then _ c.in-Some.is (c.in_ok-byte.ensures.serves cpu) next)) (leads_found _ (c.character_of.ensures.serves cpu))

pub returns-then-text-clause-regs : goal.returns-then-text-clause-regs
returns-then-text-clause-regs g c = on_ok c.character_of.result (λ looks r apart other. looks.regs r (not_both 12 19 r apart other) ∙ c.in_ok-byte.ensures.looks.regs r refl) c.character_of.ensures.looks

pub returns-in_err-element_at-clause-leads : goal.returns-in_err-element_at-clause-leads
unfolding streamed_element
returns-in_err-element_at-clause-leads g c = λ cpu. found_exit _ _ _ c.from_residual-in_err-element_at.ensures.1 (λ rest. pick_false _ _ _ c.if-text.false (serves_stop _ (c.in_err-element_at.ensures.serves cpu)))

pub returns-clause-leads : goal.returns-clause-leads
unfolding streamed_element
returns-clause-leads g c = λ cpu rest later now answer next. pick_false _ _ _ c.if-text.false (serves_then _ (c.in_ok-element_at.ensures.serves cpu) next)
