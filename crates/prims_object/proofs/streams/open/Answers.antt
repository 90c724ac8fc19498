use Rattle.std.proofs.Common.{◌≡◌, refl}
use Rattle.blue_model.specs.Storage.{of_stream}
use Rattle.prims_object.proofs.LeadLaws.{leads_exit}
use Rattle.prims_object.proofs.TestLaws.{of_some, looks_more}
use Rattle.prims_object.proofs.streams.open.Goals as goal

pub returns-in_err-text-clause-leads : goal.returns-in_err-text-clause-leads
unfolding of_stream
returns-in_err-text-clause-leads g c = λ cpu. leads_exit _ _ c.from_residual.ensures.1 (λ rest. c.in_err-text.ensures.leads cpu _)

pub returns-in_default-clause-leads : goal.returns-in_default-clause-leads
unfolding of_stream
returns-in_default-clause-leads g c = λ cpu rest. (rw c.in_default.is at c.in_ok-text.ensures.leads cpu) _

pub returns-in_err-stream-clause-leads : goal.returns-in_err-stream-clause-leads
unfolding of_stream
returns-in_err-stream-clause-leads g c = λ cpu.
    let from = c.in_ok-text.ensures.looks.regs 10 refl in
    leads_exit _ _ c.from_residual-in_err-stream.ensures.1 (λ rest. (rw c.in-Some.is at c.in_ok-text.ensures.leads cpu) _ _ _ _ ((rw from at c.in_err-stream.ensures.leads cpu) _))

pub returns-in_default-2-clause-leads : goal.returns-in_default-2-clause-leads
unfolding of_stream
returns-in_default-2-clause-leads g c = λ cpu rest.
    let from = c.in_ok-text.ensures.looks.regs 10 refl in
    (rw c.in-Some.is at c.in_ok-text.ensures.leads cpu) _ _ _ _ ((rw (c.in_default-2.is, from) at c.in_ok-stream.ensures.leads cpu) _)

pub returns-in_default-2-clause-looks : goal.returns-in_default-2-clause-looks
returns-in_default-2-clause-looks g c = looks_more 13 19 _ _ _ c.in_ok-text.ensures.fit.ready c.in_ok-text.ensures.looks c.in_ok-stream.ensures.looks

pub returns-clause-leads : goal.returns-clause-leads
unfolding of_stream
returns-clause-leads g c = λ cpu rest later now answer next.
    let from = c.in_ok-text.ensures.looks.regs 10 refl in
    let array = c.in_ok-stream.ensures.looks.regs 13 refl in
    let text : c.in-Some-2.stream.text ≡ c.in-Some.text = of_some (λ s. s.text ≡ c.in-Some.text) _ c.in-Some-2.is c.in_ok-stream.ensures.text in
    (rw c.in-Some.is at c.in_ok-text.ensures.leads cpu) _ _ _ _ ((rw (c.in-Some-2.is, from) at c.in_ok-stream.ensures.leads cpu) _ _ _ _ (rw (array, text) at next))

pub returns-clause-looks : goal.returns-clause-looks
returns-clause-looks g c = looks_more 13 19 _ _ _ c.in_ok-text.ensures.fit.ready c.in_ok-text.ensures.looks c.in_ok-stream.ensures.looks
