use Rattle.blue_model.specs.Storage.{put_streamed}
use Rattle.contexts.proofs.Steps.{pick_true, pick_false}
use Rattle.prims_object.proofs.LeadLaws.{leads_through}
use Rattle.prims_object.proofs.TestLaws.{on_ok}
use Rattle.prims_object.proofs.streams.put_streamed.Goals as goal

pub returns-then-text-clause-leads : goal.returns-then-text-clause-leads
unfolding put_streamed
returns-then-text-clause-leads g c = λ cpu. leads_through _ _ _ _ _ (λ rest later now answer next. pick_true _ _ _ c.if-text.true next) (c.store_character.ensures.leads cpu)

pub returns-clause-leads : goal.returns-clause-leads
unfolding put_streamed
returns-clause-leads g c = λ cpu. leads_through _ _ _ _ _ (λ rest later now answer next. pick_false _ _ _ c.if-text.false next) (c.store_element.ensures.leads cpu)

pub returns-clause-regs : goal.returns-clause-regs
returns-clause-regs g c = on_ok c.store_element.result (λ kept r apart other. kept r other) c.store_element.ensures.regs
