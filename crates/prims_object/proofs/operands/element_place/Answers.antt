use Rattle.std.proofs.Common.{refl}
use Rattle.contexts.proofs.ReadLaws.{looks_again}
use Rattle.contexts.proofs.TrialLaws.{found_then, none_found, finding_stopped}
use Rattle.prims_object.specs.Numbers.{IsIndex}
use Rattle.prims_object.proofs.LeadLaws.{leads_exit, leads_found, leads_through}
use Rattle.prims_object.proofs.NumberLaws.{index_kept}
use Rattle.prims_object.proofs.TestLaws.{of_some, on_ok}
use Rattle.prims_object.proofs.operands.element_place.Goals as goal

pub returns-in_err-i-clause-leads : goal.returns-in_err-i-clause-leads
returns-in_err-i-clause-leads g c = λ cpu. leads_exit _ _ c.from_residual.ensures.1 (λ rest. finding_stopped _ (c.in_err-i.ensures.serves cpu))

pub returns-in_default-clause-leads : goal.returns-in_default-clause-leads
returns-in_default-clause-leads g c = λ cpu rest. none_found _ c.in_default.is (c.in_ok-i.ensures.serves cpu)

pub returns-clause-leads : goal.returns-clause-leads
returns-clause-leads g c = λ cpu.
    let receiver = c.in_ok-i.ensures.looks.regs 10 refl in
    let z = index_kept _ (of_some IsIndex _ c.in-Some.is c.in_ok-i.ensures.range) in
    leads_through _ _ _ _ _ (λ rest later now answer s. found_then _ c.in-Some.is (c.in_ok-i.ensures.serves cpu) s) (leads_found _ (rw (receiver, z) at c.element_of.ensures.serves cpu))

pub returns-clause-looks : goal.returns-clause-looks
returns-clause-looks g c =
    let index = c.in_ok-i.ensures in
    on_ok c.element_of.result (λ last. looks_again 19 _ _ _ index.fit.ready index.looks last) c.element_of.ensures.looks
