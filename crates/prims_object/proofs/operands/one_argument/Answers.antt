use Rattle.std.proofs.Common.{refl}
use Rattle.contexts.proofs.ServesLaws.{serves_then, serves_stop}
use Rattle.prims_object.proofs.LeadLaws.{done_exit}
use Rattle.prims_object.proofs.operands.one_argument.Goals as goal

pub returns-in_err-stack-clause-leads : goal.returns-in_err-stack-clause-leads
returns-in_err-stack-clause-leads g c = done_exit _ _ c.from_residual.ensures.1 (λ rest. serves_stop _ c.in_err-stack.ensures.serves)

pub returns-in_err-stack-2-clause-leads : goal.returns-in_err-stack-2-clause-leads
returns-in_err-stack-2-clause-leads g c = done_exit _ _ c.from_residual-in_err-stack-2.ensures.1 (λ rest. serves_then _ c.in_ok-stack.ensures.serves (serves_stop _ c.in_err-stack-2.ensures.serves))

pub returns-clause-leads : goal.returns-clause-leads
returns-clause-leads g c = λ rest later now answer next.
    let receiver = c.in_ok-stack-2.ensures.looks.regs 10 refl in
    serves_then _ c.in_ok-stack.ensures.serves (serves_then _ c.in_ok-stack-2.ensures.serves (rw receiver at next))
