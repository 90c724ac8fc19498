use Rattle.std.proofs.Common.{refl, ◌∙◌}
use Rattle.blue_model.specs.Processes.{add}
use Rattle.contexts.proofs.ServesLaws.{serves_then, serves_exit, exits}
use Rattle.process_sched.proofs.lists.add.Goals as goal

pub returns-in_err-field-clause-serves : goal.returns-in_err-field-clause-serves
unfolding add
returns-in_err-field-clause-serves g c = λ cpu. serves_exit _ _ (c.in_err-field.ensures.serves cpu) c.from_residual.ensures.1

pub returns-in_err-link-clause-serves : goal.returns-in_err-link-clause-serves
unfolding add
returns-in_err-link-clause-serves g c = λ cpu.
    let process = c.in_ok-field.ensures.looks.regs 10 refl in
    let list = c.in_ok-field.ensures.looks.regs 11 refl in
    serves_then _ (c.in_ok-field.ensures.serves cpu)
    (serves_exit _ _ (rw (process, list) at c.in_err-link.ensures.serves cpu) c.from_residual-in_err-link.ensures.1)

pub returns-in_err-store_field-clause-serves : goal.returns-in_err-store_field-clause-serves
unfolding add
returns-in_err-store_field-clause-serves g c = λ cpu.
    let process = c.in_ok-field.ensures.looks.regs 10 refl in
    let list = c.in_ok-field.ensures.looks.regs 11 refl in
    let last = c.in_ok-link.ensures.process ∙ process in
    let its = c.in_ok-link.ensures.list ∙ list in
    serves_then _ (c.in_ok-field.ensures.serves cpu)
    (serves_then _ (rw (process, list) at c.in_ok-link.ensures.serves cpu)
    (serves_exit _ _ (rw (last, its) at c.in_err-store_field.ensures.serves cpu) c.from_residual-in_err-store_field.ensures.1))

pub returns-in_err-store_field-2-clause-serves : goal.returns-in_err-store_field-2-clause-serves
unfolding add
returns-in_err-store_field-2-clause-serves g c = λ cpu.
    let process = c.in_ok-field.ensures.looks.regs 10 refl in
    let list = c.in_ok-field.ensures.looks.regs 11 refl in
    let last = c.in_ok-link.ensures.process ∙ process in
    let its = c.in_ok-link.ensures.list ∙ list in
    serves_then _ (c.in_ok-field.ensures.serves cpu)
    (serves_then _ (rw (process, list) at c.in_ok-link.ensures.serves cpu)
    (serves_then _ (rw (last, its) at c.in_ok-store_field.ensures.serves cpu)
    (exits _ c.from_residual-in_err-store_field-2.ensures.1 (rw (c.in_ok-store_field.ensures.regs, last, its) at c.in_err-store_field-2.ensures.serves cpu))))

pub returns-clause-serves : goal.returns-clause-serves
unfolding add
returns-clause-serves g c = λ cpu.
    let process = c.in_ok-field.ensures.looks.regs 10 refl in
    let list = c.in_ok-field.ensures.looks.regs 11 refl in
    let last = c.in_ok-link.ensures.process ∙ process in
    let its = c.in_ok-link.ensures.list ∙ list in
    serves_then _ (c.in_ok-field.ensures.serves cpu)
    (serves_then _ (rw (process, list) at c.in_ok-link.ensures.serves cpu)
    (serves_then _ (rw (last, its) at c.in_ok-store_field.ensures.serves cpu)
    (rw (c.in_ok-store_field.ensures.regs, last, its) at c.in_ok-store_field-2.ensures.serves cpu)))
