use Rattle.std.proofs.Common.{refl, ◌∙◌, ap}
use Rattle.blue_model.specs.Processes.{take}
use Rattle.contexts.proofs.ServesLaws.{serves_then, serves_stop}
use Rattle.contexts.proofs.Steps.{done_same}
use Rattle.contexts.proofs.ReadLaws.{exits_with}
use Rattle.process_sched.proofs.lists.take.Goals as goal

pub returns-in_err-field-clause-serves : goal.returns-in_err-field-clause-serves
unfolding take
returns-in_err-field-clause-serves g c = λ cpu. exits_with _ _ c.from_residual.ensures.1 (serves_stop _ (c.in_err-field.ensures.serves cpu))

pub returns-in_err-field-2-clause-serves : goal.returns-in_err-field-2-clause-serves
unfolding take
returns-in_err-field-2-clause-serves g c = λ cpu.
    let list = c.in_ok-field.ensures.looks.regs 11 refl in
    exits_with _ _ c.from_residual-in_err-field-2.ensures.1
    (serves_then _ (c.in_ok-field.ensures.serves cpu)
    (serves_stop _ (rw list at c.in_err-field-2.ensures.serves cpu)))

pub returns-in_err-unlink-clause-serves : goal.returns-in_err-unlink-clause-serves
unfolding take
returns-in_err-unlink-clause-serves g c = λ cpu.
    let list = c.in_ok-field.ensures.looks.regs 11 refl in
    let its = c.in_ok-field-2.ensures.looks.regs 11 refl ∙ list in
    let first = c.in_ok-field-2.ensures.looks.regs 17 refl in
    exits_with _ _ c.from_residual-in_err-unlink.ensures.1
    (serves_then _ (c.in_ok-field.ensures.serves cpu)
    (serves_then _ (rw list at c.in_ok-field-2.ensures.serves cpu)
    (serves_stop _ (rw (its, first) at c.in_err-unlink.ensures.serves cpu))))

pub returns-in_err-known-clause-serves : goal.returns-in_err-known-clause-serves
unfolding take
returns-in_err-known-clause-serves g c = λ cpu.
    let list = c.in_ok-field.ensures.looks.regs 11 refl in
    let its = c.in_ok-field-2.ensures.looks.regs 11 refl ∙ list in
    let first = c.in_ok-field-2.ensures.looks.regs 17 refl in
    exits_with _ _ c.from_residual-in_err-known.ensures.1
    (serves_then _ (c.in_ok-field.ensures.serves cpu)
    (serves_then _ (rw list at c.in_ok-field-2.ensures.serves cpu)
    (serves_then _ (rw (its, first) at c.in_ok-unlink.ensures.serves cpu)
    (serves_stop _ (c.in_err-known.ensures.serves cpu)))))

pub returns-in_err-store_field-clause-serves : goal.returns-in_err-store_field-clause-serves
unfolding take
returns-in_err-store_field-clause-serves g c = λ cpu.
    let list = c.in_ok-field.ensures.looks.regs 11 refl in
    let its = c.in_ok-field-2.ensures.looks.regs 11 refl ∙ list in
    let first = c.in_ok-field-2.ensures.looks.regs 17 refl in
    let taken = c.in_ok-known.ensures.looks.regs 17 refl ∙ c.in_ok-unlink.ensures.first ∙ first in
    exits_with _ _ c.from_residual-in_err-store_field.ensures.1
    (serves_then _ (c.in_ok-field.ensures.serves cpu)
    (serves_then _ (rw list at c.in_ok-field-2.ensures.serves cpu)
    (serves_then _ (rw (its, first) at c.in_ok-unlink.ensures.serves cpu)
    (serves_then _ (c.in_ok-known.ensures.serves cpu)
    (serves_stop _ (rw taken at c.in_err-store_field.ensures.serves cpu))))))

pub returns-clause-serves : goal.returns-clause-serves
unfolding take
returns-clause-serves g c = λ cpu.
    let list = c.in_ok-field.ensures.looks.regs 11 refl in
    let its = c.in_ok-field-2.ensures.looks.regs 11 refl ∙ list in
    let first = c.in_ok-field-2.ensures.looks.regs 17 refl in
    let taken = c.in_ok-known.ensures.looks.regs 17 refl ∙ c.in_ok-unlink.ensures.first ∙ first in
    serves_then _ (c.in_ok-field.ensures.serves cpu)
    (serves_then _ (rw list at c.in_ok-field-2.ensures.serves cpu)
    (serves_then _ (rw (its, first) at c.in_ok-unlink.ensures.serves cpu)
    (serves_then _ (c.in_ok-known.ensures.serves cpu)
    (serves_then _ (rw taken at c.in_ok-store_field.ensures.serves cpu)
    (done_same (ap (λ f. f 17) c.in_ok-store_field.ensures.regs ∙ taken) c.in_ok-store_field.ensures.fit.ready)))))
