use Rattle.std.proofs.Common.{refl}
use Rattle.blue_model.specs.Processes.{link_behind}
use Rattle.contexts.proofs.ServesLaws.{serves_then, serves_exit, exits}
use Rattle.process_sched.proofs.lists.link_behind.Goals as goal

pub returns-in_err-field-clause-serves : goal.returns-in_err-field-clause-serves
unfolding link_behind
returns-in_err-field-clause-serves g c = λ cpu. serves_exit _ _ (c.in_err-field.ensures.serves cpu) c.from_residual.ensures.1

pub returns-in_err-store_field-clause-serves : goal.returns-in_err-store_field-clause-serves
unfolding link_behind
returns-in_err-store_field-clause-serves g c = λ cpu.
    let process = c.in_ok-field.ensures.looks.regs 10 refl in
    serves_then _ (c.in_ok-field.ensures.serves cpu) (exits _ c.from_residual-in_err-store_field.ensures.1 (rw process at c.in_err-store_field.ensures.serves cpu))

pub returns-clause-serves : goal.returns-clause-serves
unfolding link_behind
returns-clause-serves g c = λ cpu.
    let process = c.in_ok-field.ensures.looks.regs 10 refl in
    serves_then _ (c.in_ok-field.ensures.serves cpu) (rw process at c.in_ok-store_field.ensures.serves cpu)
