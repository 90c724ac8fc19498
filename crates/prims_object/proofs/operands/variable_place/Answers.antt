use Rattle.std.proofs.Common.{[], ◌∷◌, refl, ◌∙◌}
use Rattle.object_memory.proofs.LooksLaws.{Looks-trans}
use Rattle.contexts.proofs.TrialLaws.{found_then, none_found, finding_stopped}
use Rattle.prims_object.specs.Numbers.{IsIndex}
use Rattle.prims_object.proofs.LeadLaws.{leads_exit, leads_found, leads_through}
use Rattle.prims_object.proofs.NumberLaws.{index_kept}
use Rattle.prims_object.proofs.TestLaws.{of_some, on_ok}
use Rattle.prims_object.proofs.operands.variable_place.Goals as goal

pub returns-in_err-peek_size-clause-leads : goal.returns-in_err-peek_size-clause-leads
returns-in_err-peek_size-clause-leads g c = λ cpu. leads_exit _ _ c.from_residual.ensures.1 (λ rest. finding_stopped _ (c.in_err-peek_size.ensures.serves cpu))

pub returns-in_default-clause-leads : goal.returns-in_default-clause-leads
returns-in_default-clause-leads g c = λ cpu rest. none_found _ c.in_default.is (c.in_ok-peek_size.ensures.serves cpu)

pub returns-in_err-i-clause-leads : goal.returns-in_err-i-clause-leads
returns-in_err-i-clause-leads g c = λ cpu.
    let argument = c.in_ok-peek_size.ensures.looks.regs 11 refl in
    leads_exit _ _ c.from_residual-in_err-i.ensures.1 (λ rest. found_then _ c.in-Some.is (c.in_ok-peek_size.ensures.serves cpu) (finding_stopped _ (rw argument at c.in_err-i.ensures.serves cpu)))

pub returns-in_default-2-clause-leads : goal.returns-in_default-2-clause-leads
returns-in_default-2-clause-leads g c = λ cpu rest.
    let argument = c.in_ok-peek_size.ensures.looks.regs 11 refl in
    found_then _ c.in-Some.is (c.in_ok-peek_size.ensures.serves cpu) (none_found _ c.in_default-2.is (rw argument at c.in_ok-i.ensures.serves cpu))

pub returns-in_default-2-clause-looks : goal.returns-in_default-2-clause-looks
returns-in_default-2-clause-looks g c = Looks-trans [] (19 ∷ []) _ _ _ c.in_ok-peek_size.ensures.fit.ready c.in_ok-peek_size.ensures.looks c.in_ok-i.ensures.looks

pub returns-clause-leads : goal.returns-clause-leads
returns-clause-leads g c = λ cpu.
    let argument = c.in_ok-peek_size.ensures.looks.regs 11 refl in
    let receiver = c.in_ok-i.ensures.looks.regs 10 refl ∙ c.in_ok-peek_size.ensures.looks.regs 10 refl in
    let z = index_kept _ (of_some IsIndex _ c.in-Some-2.is c.in_ok-i.ensures.range) in
    leads_through _ _ _ _ _ (λ rest later now answer s. found_then _ c.in-Some.is (c.in_ok-peek_size.ensures.serves cpu) (found_then _ c.in-Some-2.is (rw argument at c.in_ok-i.ensures.serves cpu) s)) (leads_found _ (rw (receiver, z) at c.variable_of.ensures.serves cpu))

pub returns-clause-looks : goal.returns-clause-looks
returns-clause-looks g c =
    let size = c.in_ok-peek_size.ensures in
    let index = c.in_ok-i.ensures in
    on_ok c.variable_of.result (λ last. Looks-trans [] (19 ∷ []) _ _ _ size.fit.ready size.looks (Looks-trans (19 ∷ []) [] _ _ _ index.fit.ready index.looks last)) c.variable_of.ensures.looks
