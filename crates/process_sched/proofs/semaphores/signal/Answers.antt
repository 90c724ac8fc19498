use Rattle.std.proofs.Common.{refl, sym, ◌∙◌, arith}
use Rattle.object_memory.proofs.LooksLaws.{put_value}
use Rattle.blue_model.specs.Processes.{signal}
use Rattle.contexts.proofs.ServesLaws.{serves_then, serves_exit}
use Rattle.contexts.proofs.Steps.{pick_true, pick_false, read_first}
use Rattle.contexts.proofs.RegisterLaws.{copy_quiet}
use Rattle.process_sched.proofs.semaphores.signal.Goals as goal

pub returns-in_err-field-clause-serves : goal.returns-in_err-field-clause-serves
unfolding signal
returns-in_err-field-clause-serves g c =
    let before = c.copy.ensures.fit.ready c.requires.fit.ready in
    let semaphore = put_value _ _ 11 _ c.copy.ensures.told in
    read_first c.requires.fit.ready (copy_quiet _ _ 11 _ (omega arith) c.requires.fit.ready before c.copy.ensures.told)
    (serves_exit _ _ (rw semaphore at c.in_err-field.ensures.serves c.args.cpu.now) c.from_residual.ensures.1)

pub returns-then-is-clause-serves : goal.returns-then-is-clause-serves
unfolding signal
returns-then-is-clause-serves g c =
    let before = c.copy.ensures.fit.ready c.requires.fit.ready in
    let semaphore = put_value _ _ 11 _ c.copy.ensures.told in
    let still = c.in_ok-field.ensures.looks.regs 11 refl ∙ semaphore in
    read_first c.requires.fit.ready (copy_quiet _ _ 11 _ (omega arith) c.requires.fit.ready before c.copy.ensures.told)
    (serves_then _ (rw semaphore at c.in_ok-field.ensures.serves c.args.cpu.now)
    (pick_true _ _ _ (sym c.is.ensures ∙ c.if-is.true) (rw still at c.add_signal.ensures.serves c.args.cpu.now)))

pub returns-in_err-take-clause-serves : goal.returns-in_err-take-clause-serves
unfolding signal
returns-in_err-take-clause-serves g c =
    let before = c.copy.ensures.fit.ready c.requires.fit.ready in
    let semaphore = put_value _ _ 11 _ c.copy.ensures.told in
    let still = c.in_ok-field.ensures.looks.regs 11 refl ∙ semaphore in
    read_first c.requires.fit.ready (copy_quiet _ _ 11 _ (omega arith) c.requires.fit.ready before c.copy.ensures.told)
    (serves_then _ (rw semaphore at c.in_ok-field.ensures.serves c.args.cpu.now)
    (pick_false _ _ _ (sym c.is.ensures ∙ c.if-is.false) (serves_exit _ _ (rw still at c.in_err-take.ensures.serves c.args.cpu.now) c.from_residual-in_err-take.ensures.1)))

pub returns-clause-serves : goal.returns-clause-serves
unfolding signal
returns-clause-serves g c =
    let before = c.copy.ensures.fit.ready c.requires.fit.ready in
    let semaphore = put_value _ _ 11 _ c.copy.ensures.told in
    let still = c.in_ok-field.ensures.looks.regs 11 refl ∙ semaphore in
    read_first c.requires.fit.ready (copy_quiet _ _ 11 _ (omega arith) c.requires.fit.ready before c.copy.ensures.told)
    (serves_then _ (rw semaphore at c.in_ok-field.ensures.serves c.args.cpu.now)
    (pick_false _ _ _ (sym c.is.ensures ∙ c.if-is.false) (serves_then _ (rw still at c.in_ok-take.ensures.serves c.args.cpu.now) c.resume.ensures.serves)))
