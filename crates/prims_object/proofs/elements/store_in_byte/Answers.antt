use Rattle.std.proofs.Common.{sym, ap, ◌∙◌}
use Rattle.blue_model.specs.Elements.{byte_by}
use Rattle.contexts.proofs.ServesLaws.{serves_then, serves_stop}
use Rattle.contexts.proofs.TrialLaws.{some_then, none_fails}
use Rattle.prims_object.proofs.LeadLaws.{found_exit}
use Rattle.prims_object.proofs.elements.store_in_byte.Goals as goal

pub returns-in_default-clause-leads : goal.returns-in_default-clause-leads
returns-in_default-clause-leads g c = λ cpu rest. none_fails _ _ c.requires.fit.ready (λ told. ap byte_by (sym c.as_int.ensures.number) ∙ sym c.byte_by.ensures ∙ c.in_default.is)

pub returns-in_err-store_byte-clause-leads : goal.returns-in_err-store_byte-clause-leads
returns-in_err-store_byte-clause-leads g c = λ cpu. found_exit _ _ _ c.from_residual.ensures.1 (λ rest. some_then _ _ c.in-Some.byte (λ told. ap byte_by (sym c.as_int.ensures.number) ∙ sym c.byte_by.ensures ∙ c.in-Some.is) (serves_stop _ (c.in_err-store_byte.ensures.serves cpu)))

pub returns-clause-leads : goal.returns-clause-leads
returns-clause-leads g c = λ cpu rest later now answer next. some_then _ _ c.in-Some.byte (λ told. ap byte_by (sym c.as_int.ensures.number) ∙ sym c.byte_by.ensures ∙ c.in-Some.is) (serves_then _ (c.in_ok-store_byte.ensures.serves cpu) next)

pub returns-clause-regs : goal.returns-clause-regs
returns-clause-regs g c = λ r apart. ap (λ f. f r) c.in_ok-store_byte.ensures.regs
