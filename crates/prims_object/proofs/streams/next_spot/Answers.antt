use Rattle.std.proofs.Common.{sym, ◌∙◌}
use Rattle.blue_model.specs.Storage.{next_spot}
use Rattle.contexts.proofs.TrialLaws.{found_then, none_found, finding_stopped, true_then, false_fails}
use Rattle.prims_object.proofs.LeadLaws.{leads_exit}
use Rattle.prims_object.proofs.NumberLaws.{index_as}
use Rattle.prims_object.proofs.streams.next_spot.Goals as goal

pub returns-then-not-is_open-clause-leads : goal.returns-then-not-is_open-clause-leads
unfolding next_spot
returns-then-not-is_open-clause-leads g c = λ cpu rest. false_fails _ _ c.requires.fit.ready (λ told. sym c.is_open.ensures ∙ c.if-not-is_open.true)

pub returns-in_err-spot-clause-leads : goal.returns-in_err-spot-clause-leads
unfolding next_spot
returns-in_err-spot-clause-leads g c = λ cpu.
    let z = index_as _ _ c.next.ensures.next (rw c.next.ensures.next at c.next.ensures.range) in
    leads_exit _ _ c.from_residual.ensures.1 (λ rest. true_then _ _ (λ told. sym c.is_open.ensures ∙ c.if-not-is_open.false) (finding_stopped _ (rw z at c.in_err-spot.ensures.serves cpu)))

pub returns-in_default-clause-leads : goal.returns-in_default-clause-leads
unfolding next_spot
returns-in_default-clause-leads g c = λ cpu rest.
    let z = index_as _ _ c.next.ensures.next (rw c.next.ensures.next at c.next.ensures.range) in
    true_then _ _ (λ told. sym c.is_open.ensures ∙ c.if-not-is_open.false) (none_found _ c.in_default.is (rw z at c.in_ok-spot.ensures.serves cpu))

pub returns-then-not-can_grow-clause-leads : goal.returns-then-not-can_grow-clause-leads
unfolding next_spot
returns-then-not-can_grow-clause-leads g c = λ cpu rest.
    let z = index_as _ _ c.next.ensures.next (rw c.next.ensures.next at c.next.ensures.range) in
    true_then _ _ (λ told. sym c.is_open.ensures ∙ c.if-not-is_open.false) (found_then _ c.in-Some.is (rw z at c.in_ok-spot.ensures.serves cpu) (false_fails _ _ c.in_ok-spot.ensures.fit.ready (λ told. sym c.can_grow.ensures ∙ c.if-not-can_grow.true)))

pub returns-clause-leads : goal.returns-clause-leads
unfolding next_spot
returns-clause-leads g c = λ cpu rest later now answer next.
    let z = index_as _ _ c.next.ensures.next (rw c.next.ensures.next at c.next.ensures.range) in
    true_then _ _ (λ told. sym c.is_open.ensures ∙ c.if-not-is_open.false) (found_then _ c.in-Some.is (rw z at c.in_ok-spot.ensures.serves cpu) (true_then _ _ (λ told. sym c.can_grow.ensures ∙ c.if-not-can_grow.false) next))
