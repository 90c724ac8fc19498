use Rattle.std.proofs.Common.{sym, ◌∙◌, ap, refl}
use Rattle.long_names.specs.Words.{IsSmallInteger}
use Rattle.object_memory.proofs.ShapeLaws.{small_number}
use Rattle.blue_model.specs.Elements.{natural}
use Rattle.contexts.proofs.ReadLaws.{looks_again}
use Rattle.contexts.proofs.TrialLaws.{found_then, none_found, finding_stopped, some_then, none_fails}
use Rattle.prims_object.proofs.LeadLaws.{leads_exit}
use Rattle.prims_object.proofs.NumberLaws.{index_as, small_index}
use Rattle.prims_object.proofs.TestLaws.{of_some}
use Rattle.prims_object.proofs.streams.numbers_of.Goals as goal

pub returns-in_err-number-clause-leads : goal.returns-in_err-number-clause-leads
returns-in_err-number-clause-leads g c = λ cpu. leads_exit _ _ c.from_residual.ensures.1 (λ rest. finding_stopped _ (c.in_err-number.ensures.serves cpu))

pub returns-in_default-clause-leads : goal.returns-in_default-clause-leads
returns-in_default-clause-leads g c = λ cpu rest. none_found _ c.in_default.is (c.in_ok-number.ensures.serves cpu)

pub returns-in_err-limit-clause-leads : goal.returns-in_err-limit-clause-leads
returns-in_err-limit-clause-leads g c = λ cpu.
    let stream = c.in_ok-number.ensures.looks.regs 10 refl in
    leads_exit _ _ c.from_residual-in_err-limit.ensures.1 (λ rest. found_then _ c.in-Some.is (c.in_ok-number.ensures.serves cpu) (finding_stopped _ (rw stream at c.in_err-limit.ensures.serves cpu)))

pub returns-in_default-2-clause-leads : goal.returns-in_default-2-clause-leads
returns-in_default-2-clause-leads g c = λ cpu rest.
    let stream = c.in_ok-number.ensures.looks.regs 10 refl in
    found_then _ c.in-Some.is (c.in_ok-number.ensures.serves cpu) (none_found _ c.in_default-2.is (rw stream at c.in_ok-limit.ensures.serves cpu))

pub returns-in_default-2-clause-looks : goal.returns-in_default-2-clause-looks
returns-in_default-2-clause-looks g c = looks_again 19 _ _ _ c.in_ok-number.ensures.fit.ready c.in_ok-number.ensures.looks c.in_ok-limit.ensures.looks

pub returns-in_default-natural-clause-leads : goal.returns-in_default-natural-clause-leads
returns-in_default-natural-clause-leads g c = λ cpu rest.
    let stream = c.in_ok-number.ensures.looks.regs 10 refl in
    let small = of_some IsSmallInteger _ c.in-Some.is c.in_ok-number.ensures.range in
    let index = ap natural (sym (index_as _ _ (c.from.ensures ∙ small_number _ small) (small_index _ small))) ∙ sym c.natural.ensures in
    found_then _ c.in-Some.is (c.in_ok-number.ensures.serves cpu)
    (found_then _ c.in-Some-2.is (rw stream at c.in_ok-limit.ensures.serves cpu)
    (none_fails _ _ c.in_ok-limit.ensures.fit.ready (λ told. index ∙ c.in_default-natural.is)))

pub returns-in_default-natural-clause-looks : goal.returns-in_default-natural-clause-looks
returns-in_default-natural-clause-looks g c = looks_again 19 _ _ _ c.in_ok-number.ensures.fit.ready c.in_ok-number.ensures.looks c.in_ok-limit.ensures.looks

pub returns-clause-leads : goal.returns-clause-leads
returns-clause-leads g c = λ cpu rest later now answer next.
    let stream = c.in_ok-number.ensures.looks.regs 10 refl in
    let small = of_some IsSmallInteger _ c.in-Some.is c.in_ok-number.ensures.range in
    let index = ap natural (sym (index_as _ _ (c.from.ensures ∙ small_number _ small) (small_index _ small))) ∙ sym c.natural.ensures in
    let limit = small_number _ (of_some IsSmallInteger _ c.in-Some-2.is c.in_ok-limit.ensures.range) in
    found_then _ c.in-Some.is (c.in_ok-number.ensures.serves cpu)
    (found_then _ c.in-Some-2.is (rw stream at c.in_ok-limit.ensures.serves cpu)
    (some_then _ _ c.in-Some-natural.index (λ told. index ∙ c.in-Some-natural.is) (rw limit at next)))

pub returns-clause-looks : goal.returns-clause-looks
returns-clause-looks g c = looks_again 19 _ _ _ c.in_ok-number.ensures.fit.ready c.in_ok-number.ensures.looks c.in_ok-limit.ensures.looks
