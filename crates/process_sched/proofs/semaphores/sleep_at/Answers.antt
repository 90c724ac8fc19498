use Rattle.std.proofs.Common.{refl}
use Rattle.blue_model.specs.Processes.{sleep_at}
use Rattle.contexts.proofs.ServesLaws.{serves_then, serves_exit}
use Rattle.process_sched.proofs.semaphores.sleep_at.Goals as goal

pub returns-in_err-current_process-clause-serves : goal.returns-in_err-current_process-clause-serves
unfolding sleep_at
returns-in_err-current_process-clause-serves g c = serves_exit _ _ c.in_err-current_process.ensures.serves c.from_residual.ensures.1

pub returns-in_err-add-clause-serves : goal.returns-in_err-add-clause-serves
unfolding sleep_at
returns-in_err-add-clause-serves g c =
    let semaphore = c.in_ok-current_process.ensures.looks.regs 11 refl in
    serves_then _ c.in_ok-current_process.ensures.serves (serves_exit _ _ (rw semaphore at c.in_err-add.ensures.serves c.args.cpu.now) c.from_residual-in_err-add.ensures.1)

pub returns-clause-serves : goal.returns-clause-serves
unfolding sleep_at
returns-clause-serves g c =
    let semaphore = c.in_ok-current_process.ensures.looks.regs 11 refl in
    serves_then _ c.in_ok-current_process.ensures.serves
    (serves_then _ (rw semaphore at c.in_ok-add.ensures.serves c.args.cpu.now) c.suspend_active.ensures.serves)
