use Rattle.std.proofs.Common.{[], ◌∷◌}
use Rattle.object_memory.proofs.LooksLaws.{Looks-trans}
use Rattle.contexts.proofs.TrialLaws.{found_then, none_found, finding_stopped}
use Rattle.std.proofs.Common.{refl}
use Rattle.prims_object.proofs.LeadLaws.{leads_exit}
use Rattle.prims_object.proofs.TestLaws.{looks_first}
use Rattle.prims_object.proofs.streams.array_of.Goals as goal

pub returns-in_err-peek_field-clause-leads : goal.returns-in_err-peek_field-clause-leads
returns-in_err-peek_field-clause-leads g c = λ cpu. leads_exit _ _ c.from_residual.ensures.1 (λ rest. finding_stopped _ (c.in_err-peek_field.ensures.serves cpu))

pub returns-then-not-branch-clause-leads : goal.returns-then-not-branch-clause-leads
returns-then-not-branch-clause-leads g c = λ cpu rest. none_found _ refl (rw c.if-not-branch.true at c.in_ok-peek_field.ensures.serves cpu)

pub returns-then-not-branch-clause-looks : goal.returns-then-not-branch-clause-looks
returns-then-not-branch-clause-looks g c = looks_first 13 (19 ∷ []) _ _ c.in_ok-peek_field.ensures.looks

pub returns-in_err-text-clause-leads : goal.returns-in_err-text-clause-leads
returns-in_err-text-clause-leads g c = λ cpu. leads_exit _ _ c.from_residual-in_err-text.ensures.1 (λ rest. found_then _ refl (rw c.if-not-branch.false at c.in_ok-peek_field.ensures.serves cpu) (finding_stopped _ (c.in_err-text.ensures.serves cpu)))

pub returns-in_default-clause-leads : goal.returns-in_default-clause-leads
returns-in_default-clause-leads g c = λ cpu rest. found_then _ refl (rw c.if-not-branch.false at c.in_ok-peek_field.ensures.serves cpu) (none_found _ c.in_default.is (c.in_ok-text.ensures.serves cpu))

pub returns-in_default-clause-looks : goal.returns-in_default-clause-looks
returns-in_default-clause-looks g c = Looks-trans (13 ∷ []) (19 ∷ []) _ _ _ c.in_ok-peek_field.ensures.fit.ready c.in_ok-peek_field.ensures.looks c.in_ok-text.ensures.looks

pub returns-clause-leads : goal.returns-clause-leads
returns-clause-leads g c = λ cpu rest later now answer next.
    let array = c.in_ok-text.ensures.looks.regs 13 refl in
    found_then _ refl (rw c.if-not-branch.false at c.in_ok-peek_field.ensures.serves cpu) (found_then _ c.in-Some.is (c.in_ok-text.ensures.serves cpu) (rw array at next))

pub returns-clause-looks : goal.returns-clause-looks
returns-clause-looks g c = Looks-trans (13 ∷ []) (19 ∷ []) _ _ _ c.in_ok-peek_field.ensures.fit.ready c.in_ok-peek_field.ensures.looks c.in_ok-text.ensures.looks
