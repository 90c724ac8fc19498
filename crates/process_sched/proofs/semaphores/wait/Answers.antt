use Rattle.std.proofs.Common.{pos, refl, sym, ◌∙◌, arith}
use Rattle.object_memory.proofs.LooksLaws.{Looks-put, put_value}
use Rattle.object_memory.proofs.ShapeLaws.{small_number}
use Rattle.blue_model.specs.Processes.{wait}
use Rattle.contexts.proofs.ServesLaws.{serves_then, serves_exit}
use Rattle.contexts.proofs.Steps.{pick_true, pick_false, read_first}
use Rattle.contexts.proofs.RegisterLaws.{int_quiet}
use Rattle.process_sched.proofs.ValueLaws.{tested, less_said}
use Rattle.process_sched.proofs.semaphores.wait.Goals as goal

pub returns-in_err-excess-clause-serves : goal.returns-in_err-excess-clause-serves
unfolding wait
returns-in_err-excess-clause-serves g c = serves_exit _ _ (c.in_err-excess.ensures.serves _) c.from_residual.ensures.1

pub returns-then-has_signal-clause-serves : goal.returns-then-has_signal-clause-serves
unfolding wait
returns-then-has_signal-clause-serves g c =
    let ready = c.in_ok-excess.ensures.fit.ready in
    let semaphore = (Looks-put _ _ 16 _ c.int.ensures.told).regs 11 refl ∙ c.in_ok-excess.ensures.looks.regs 11 refl in
    let test = tested {a = pos 0} refl (small_number _ c.in_ok-excess.ensures.range) (sym c.has_signal.ensures ∙ c.if-has_signal.true) in
    let value = put_value _ _ 16 _ c.int.ensures.told ∙ less_said _ c.in_ok-excess.ensures.range test in
    serves_then _ (c.in_ok-excess.ensures.serves _)
    (pick_true _ _ _ test (read_first ready (int_quiet _ _ 16 _ (omega arith) ready (c.int.ensures.fit.ready ready) c.int.ensures.told)
    (rw (semaphore, value) at c.store_field.ensures.serves c.args.cpu.now)))

pub returns-clause-serves : goal.returns-clause-serves
unfolding wait
returns-clause-serves g c =
    let semaphore = c.in_ok-excess.ensures.looks.regs 11 refl in
    let test = tested {a = pos 0} refl (small_number _ c.in_ok-excess.ensures.range) (sym c.has_signal.ensures ∙ c.if-has_signal.false) in
    serves_then _ (c.in_ok-excess.ensures.serves _)
    (pick_false _ _ _ test (rw semaphore at c.sleep_at.ensures.serves))
