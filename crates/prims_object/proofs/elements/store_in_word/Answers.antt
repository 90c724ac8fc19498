use Rattle.std.proofs.Common.{ap, ◌∙◌}
use Rattle.object_memory.proofs.LooksLaws.{not_among}
use Rattle.contexts.proofs.Frames.{below}
use Rattle.contexts.proofs.ServesLaws.{serves_then, serves_stop}
use Rattle.prims_object.proofs.LeadLaws.{found_exit}
use Rattle.prims_object.proofs.elements.store_in_word.Goals as goal

pub returns-in_err-word-clause-leads : goal.returns-in_err-word-clause-leads
returns-in_err-word-clause-leads g c = λ cpu. found_exit _ _ _ c.from_residual.ensures.1 (λ rest. c.in_err-word.ensures.leads cpu _)

pub returns-in_default-clause-leads : goal.returns-in_default-clause-leads
returns-in_default-clause-leads g c = λ cpu rest. (rw c.in_default.is at c.in_ok-word.ensures.leads cpu) _

pub returns-in_err-store_word-clause-leads : goal.returns-in_err-store_word-clause-leads
returns-in_err-store_word-clause-leads g c = λ cpu.
    let array = c.in_ok-word.ensures.looks.regs c.args.array (below 19 c.args.array c.requires.array) in
    found_exit _ _ _ c.from_residual-in_err-store_word.ensures.1 (λ rest. (rw c.in-Some.is at c.in_ok-word.ensures.leads cpu) _ _ _ _ (serves_stop (λ _. rest) (rw array at c.in_err-store_word.ensures.serves cpu)))

pub returns-clause-leads : goal.returns-clause-leads
returns-clause-leads g c = λ cpu rest later now answer next.
    let array = c.in_ok-word.ensures.looks.regs c.args.array (below 19 c.args.array c.requires.array) in
    (rw c.in-Some.is at c.in_ok-word.ensures.leads cpu) _ _ _ _ (serves_then (λ _. rest) (rw array at c.in_ok-store_word.ensures.serves cpu) next)

pub returns-clause-regs : goal.returns-clause-regs
returns-clause-regs g c = λ r apart. ap (λ f. f r) c.in_ok-store_word.ensures.regs ∙ c.in_ok-word.ensures.looks.regs r (not_among 19 r apart)
