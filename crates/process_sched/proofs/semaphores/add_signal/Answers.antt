use Rattle.std.proofs.Common.{refl, ◌∙◌, arith}
use Rattle.object_memory.proofs.LooksLaws.{Looks-put, put_value}
use Rattle.object_memory.proofs.ShapeLaws.{small_number}
use Rattle.blue_model.specs.Processes.{add_signal}
use Rattle.contexts.proofs.ServesLaws.{serves_then, serves_exit}
use Rattle.contexts.proofs.Steps.{read_first}
use Rattle.contexts.proofs.RegisterLaws.{int_quiet}
use Rattle.process_sched.proofs.ValueLaws.{more_said}
use Rattle.process_sched.proofs.semaphores.add_signal.Goals as goal

pub returns-in_err-excess-clause-serves : goal.returns-in_err-excess-clause-serves
unfolding add_signal
returns-in_err-excess-clause-serves g c = λ cpu. serves_exit _ _ (c.in_err-excess.ensures.serves cpu) c.from_residual.ensures.1

pub returns-clause-serves : goal.returns-clause-serves
unfolding add_signal
returns-clause-serves g c = λ cpu.
    let ready = c.in_ok-excess.ensures.fit.ready in
    let semaphore = (Looks-put _ _ 16 _ c.int.ensures.told).regs 11 refl ∙ c.in_ok-excess.ensures.looks.regs 11 refl in
    let value = put_value _ _ 16 _ c.int.ensures.told ∙ more_said _ _ _ _ (small_number _ c.in_ok-excess.ensures.range) c.one_more.ensures.number (small_number _ c.one_more.ensures.range) in
    serves_then _ (c.in_ok-excess.ensures.serves cpu)
    (read_first ready (int_quiet _ _ 16 _ (omega arith) ready (c.int.ensures.fit.ready ready) c.int.ensures.told)
    (rw (semaphore, value) at c.store_field.ensures.serves cpu))
