use Rattle.std.proofs.Common.{refl}
use Rattle.blue_model.specs.Processes.{wake}
use Rattle.contexts.proofs.ServesLaws.{serves_then, serves_stop}
use Rattle.contexts.proofs.ReadLaws.{exits_with}
use Rattle.process_sched.proofs.scheduler.wake.Goals as goal

pub returns-in_err-process_lists-clause-serves : goal.returns-in_err-process_lists-clause-serves
unfolding wake
returns-in_err-process_lists-clause-serves g c = λ cpu. exits_with _ _ c.from_residual.ensures.1 (serves_stop _ (c.in_err-process_lists.ensures.serves cpu))

pub returns-in_err-count-clause-serves : goal.returns-in_err-count-clause-serves
unfolding wake
returns-in_err-count-clause-serves g c = λ cpu. exits_with _ _ c.from_residual-in_err-count.ensures.1 (serves_then _ (c.in_ok-process_lists.ensures.serves cpu) (serves_stop _ (c.in_err-count.ensures.serves cpu)))

pub returns-clause-serves : goal.returns-clause-serves
unfolding wake
returns-clause-serves g c = λ cpu.
    let lists = c.in_ok-count.ensures.looks.regs 15 refl in
    serves_then _ (c.in_ok-process_lists.ensures.serves cpu)
    (serves_then _ (c.in_ok-count.ensures.serves cpu) (rw lists at c.wake_among.ensures.serves cpu))
