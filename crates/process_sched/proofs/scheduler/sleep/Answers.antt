use Rattle.std.proofs.Common.{refl, ◌∙◌}
use Rattle.object_memory.proofs.ShapeLaws.{small_number}
use Rattle.blue_model.specs.Processes.{sleep}
use Rattle.contexts.proofs.ServesLaws.{serves_then, serves_exit}
use Rattle.contexts.proofs.Steps.{given_then, given_stuck}
use Rattle.process_sched.proofs.ValueLaws.{list_found}
use Rattle.process_sched.proofs.scheduler.sleep.Goals as goal

pub returns-in_err-priority-clause-serves : goal.returns-in_err-priority-clause-serves
unfolding sleep
returns-in_err-priority-clause-serves g c = λ cpu. serves_exit _ _ (c.in_err-priority.ensures.serves cpu) c.from_residual.ensures.1

pub returns-in_err-process_lists-clause-serves : goal.returns-in_err-process_lists-clause-serves
unfolding sleep
returns-in_err-process_lists-clause-serves g c = λ cpu. serves_then _ (c.in_ok-priority.ensures.serves cpu)
    (serves_exit _ _ (c.in_err-process_lists.ensures.serves cpu) c.from_residual-in_err-process_lists.ensures.1)

pub returns-in_err-count-clause-serves : goal.returns-in_err-count-clause-serves
unfolding sleep
returns-in_err-count-clause-serves g c = λ cpu. serves_then _ (c.in_ok-priority.ensures.serves cpu)
    (serves_then _ (c.in_ok-process_lists.ensures.serves cpu)
    (serves_exit _ _ (c.in_err-count.ensures.serves cpu) c.from_residual-in_err-count.ensures.1))

pub returns-in_default-clause-serves : goal.returns-in_default-clause-serves
unfolding sleep
returns-in_default-clause-serves g c = λ cpu. serves_then _ (c.in_ok-priority.ensures.serves cpu)
    (serves_then _ (c.in_ok-process_lists.ensures.serves cpu)
    (serves_then _ (c.in_ok-count.ensures.serves cpu)
    (given_stuck _ _ (λ told. list_found _ _ _ _ _ (small_number _ c.in_ok-priority.ensures.range) c.list_index.ensures.index c.in_default.is))))

pub returns-in_err-field-clause-serves : goal.returns-in_err-field-clause-serves
unfolding sleep
returns-in_err-field-clause-serves g c = λ cpu.
    let lists = c.in_ok-count.ensures.looks.regs 15 refl in
    serves_then _ (c.in_ok-priority.ensures.serves cpu)
    (serves_then _ (c.in_ok-process_lists.ensures.serves cpu)
    (serves_then _ (c.in_ok-count.ensures.serves cpu)
    (given_then _ _ _ _ (λ told. list_found _ _ _ _ _ (small_number _ c.in_ok-priority.ensures.range) c.list_index.ensures.index c.in-Some.is)
    (serves_exit _ _ (rw lists at c.in_err-field.ensures.serves cpu) c.from_residual-in_err-field.ensures.1))))

pub returns-clause-serves : goal.returns-clause-serves
unfolding sleep
returns-clause-serves g c = λ cpu.
    let lists = c.in_ok-count.ensures.looks.regs 15 refl in
    let process = c.in_ok-field.ensures.looks.regs 10 refl ∙ c.in_ok-count.ensures.looks.regs 10 refl ∙ c.in_ok-process_lists.ensures.looks.regs 10 refl ∙ c.in_ok-priority.ensures.looks.regs 10 refl in
    serves_then _ (c.in_ok-priority.ensures.serves cpu)
    (serves_then _ (c.in_ok-process_lists.ensures.serves cpu)
    (serves_then _ (c.in_ok-count.ensures.serves cpu)
    (given_then _ _ _ _ (λ told. list_found _ _ _ _ _ (small_number _ c.in_ok-priority.ensures.range) c.list_index.ensures.index c.in-Some.is)
    (serves_then _ (rw lists at c.in_ok-field.ensures.serves cpu)
    (rw process at c.add.ensures.serves cpu)))))
