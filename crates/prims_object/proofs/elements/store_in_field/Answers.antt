use Rattle.std.proofs.Common.{ap}
use Rattle.contexts.proofs.ServesLaws.{serves_then, serves_stop}
use Rattle.prims_object.proofs.LeadLaws.{found_exit}
use Rattle.prims_object.proofs.elements.store_in_field.Goals as goal

pub returns-in_err-store_value-clause-leads : goal.returns-in_err-store_value-clause-leads
returns-in_err-store_value-clause-leads g c = λ cpu. found_exit _ _ _ c.from_residual.ensures.1 (λ rest. serves_stop _ (c.in_err-store_value.ensures.serves cpu))

pub returns-clause-leads : goal.returns-clause-leads
returns-clause-leads g c = λ cpu rest later now answer next. serves_then _ (c.in_ok-store_value.ensures.serves cpu) next

pub returns-clause-regs : goal.returns-clause-regs
returns-clause-regs g c = λ r apart. ap (λ f. f r) c.in_ok-store_value.ensures.regs
