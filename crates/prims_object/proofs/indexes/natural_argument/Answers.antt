use Rattle.std.proofs.Common.{◌∙◌, ap}
use Rattle.blue_model.specs.Elements.{natural}
use Rattle.contexts.proofs.TrialLaws.{none_found, finding_stopped}
use Rattle.prims_object.specs.Numbers.{IsIndex}
use Rattle.prims_object.proofs.LeadLaws.{leads_exit, leads_by}
use Rattle.prims_object.proofs.NumberLaws.{index_kept}
use Rattle.prims_object.proofs.TestLaws.{of_some}
use Rattle.prims_object.proofs.indexes.natural_argument.Goals as goal

pub returns-in_err-number-clause-leads : goal.returns-in_err-number-clause-leads
returns-in_err-number-clause-leads g c = λ cpu. leads_exit _ _ c.from_residual.ensures.1 (λ rest. finding_stopped _ (c.in_err-number.ensures.serves cpu))

pub returns-in_default-clause-leads : goal.returns-in_default-clause-leads
returns-in_default-clause-leads g c = λ cpu. λ rest. none_found _ c.in_default.is (c.in_ok-number.ensures.serves cpu)

pub returns-clause-leads : goal.returns-clause-leads
returns-clause-leads g c = λ cpu.
    let z = index_kept _ (of_some IsIndex _ c.in-Some.is c.in_ok-number.ensures.range) in
    leads_by c.in-Some.number natural _ (c.natural.ensures ∙ ap natural z) (rw c.in-Some.is at (c.in_ok-number.ensures.serves cpu))
