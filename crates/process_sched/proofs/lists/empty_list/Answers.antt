use Rattle.std.proofs.Common.{refl}
use Rattle.blue_model.specs.Processes.{empty_list}
use Rattle.contexts.proofs.ServesLaws.{serves_then, serves_exit, exits}
use Rattle.process_sched.proofs.lists.empty_list.Goals as goal

pub returns-in_err-known-clause-serves : goal.returns-in_err-known-clause-serves
unfolding empty_list
returns-in_err-known-clause-serves g c = λ cpu. serves_exit _ _ (c.in_err-known.ensures.serves cpu) c.from_residual.ensures.1

pub returns-in_err-store_field-clause-serves : goal.returns-in_err-store_field-clause-serves
unfolding empty_list
returns-in_err-store_field-clause-serves g c = λ cpu.
    let list = c.in_ok-known.ensures.looks.regs 11 refl in
    serves_then _ (c.in_ok-known.ensures.serves cpu)
    (serves_exit _ _ (rw list at c.in_err-store_field.ensures.serves cpu) c.from_residual-in_err-store_field.ensures.1)

pub returns-in_err-store_field-2-clause-serves : goal.returns-in_err-store_field-2-clause-serves
unfolding empty_list
returns-in_err-store_field-2-clause-serves g c = λ cpu.
    let list = c.in_ok-known.ensures.looks.regs 11 refl in
    serves_then _ (c.in_ok-known.ensures.serves cpu)
    (serves_then _ (rw list at c.in_ok-store_field.ensures.serves cpu)
    (exits _ c.from_residual-in_err-store_field-2.ensures.1 (rw (c.in_ok-store_field.ensures.regs, list) at c.in_err-store_field-2.ensures.serves cpu)))

pub returns-clause-serves : goal.returns-clause-serves
unfolding empty_list
returns-clause-serves g c = λ cpu.
    let list = c.in_ok-known.ensures.looks.regs 11 refl in
    serves_then _ (c.in_ok-known.ensures.serves cpu)
    (serves_then _ (rw list at c.in_ok-store_field.ensures.serves cpu)
    (rw (c.in_ok-store_field.ensures.regs, list) at c.in_ok-store_field-2.ensures.serves cpu))
