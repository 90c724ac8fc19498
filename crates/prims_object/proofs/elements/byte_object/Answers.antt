use Rattle.std.proofs.Common.{refl, ◌∙◌}
use Rattle.contexts.proofs.ReadLaws.{exits_with}
use Rattle.contexts.proofs.ServesLaws.{serves_then, serves_stop}
use Rattle.prims_object.proofs.TestLaws.{on_ok}
use Rattle.prims_object.proofs.elements.byte_object.Goals as goal

pub returns-in_err-byte-clause-serves : goal.returns-in_err-byte-clause-serves
returns-in_err-byte-clause-serves g c = λ cpu. exits_with _ _ c.from_residual.ensures.1 (serves_stop _ (c.in_err-byte.ensures.serves cpu))

pub returns-clause-serves : goal.returns-clause-serves
returns-clause-serves g c = λ cpu. serves_then _ (c.in_ok-byte.ensures.serves cpu) (rw c.from.ensures at c.number_object.ensures.serves cpu)

pub returns-clause-regs : goal.returns-clause-regs
returns-clause-regs g c = on_ok c.number_object.result (λ kept r apart other. kept r apart other ∙ c.in_ok-byte.ensures.looks.regs r refl) c.number_object.ensures.regs
