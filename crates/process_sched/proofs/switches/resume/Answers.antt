use Rattle.std.proofs.Common.{refl, ◌∙◌, arith}
use Rattle.object_memory.proofs.LooksLaws.{put_value}
use Rattle.object_memory.proofs.ShapeLaws.{small_number}
use Rattle.blue_model.specs.Processes.{resume}
use Rattle.contexts.proofs.ServesLaws.{serves_then, serves_exit}
use Rattle.contexts.proofs.Steps.{pick_true, pick_false, read_first}
use Rattle.contexts.proofs.RegisterLaws.{copy_quiet}
use Rattle.process_sched.proofs.ValueLaws.{tested}
use Rattle.process_sched.proofs.switches.resume.Goals as goal

pub returns-in_err-priority-clause-serves : goal.returns-in_err-priority-clause-serves
unfolding resume
returns-in_err-priority-clause-serves g c = serves_exit _ _ (c.in_err-priority.ensures.serves _) c.from_residual.ensures.1

pub returns-in_err-current_process-clause-serves : goal.returns-in_err-current_process-clause-serves
unfolding resume
returns-in_err-current_process-clause-serves g c =
    serves_then _ (c.in_ok-priority.ensures.serves _)
    (serves_exit _ _ c.in_err-current_process.ensures.serves c.from_residual-in_err-current_process.ensures.1)

pub returns-in_err-own-clause-serves : goal.returns-in_err-own-clause-serves
unfolding resume
returns-in_err-own-clause-serves g c =
    serves_then _ (c.in_ok-priority.ensures.serves _)
    (serves_then _ c.in_ok-current_process.ensures.serves
    (serves_exit _ _ (c.in_err-own.ensures.serves _) c.from_residual-in_err-own.ensures.1))

pub returns-in_err-sleep-clause-serves : goal.returns-in_err-sleep-clause-serves
unfolding resume
returns-in_err-sleep-clause-serves g c =
    let current = c.in_ok-own.ensures.looks.regs 10 refl in
    let test = tested (small_number _ c.in_ok-own.ensures.range) (small_number _ c.in_ok-priority.ensures.range) c.if-own-priority.true in
    serves_then _ (c.in_ok-priority.ensures.serves _)
    (serves_then _ c.in_ok-current_process.ensures.serves
    (serves_then _ (c.in_ok-own.ensures.serves _)
    (pick_true _ _ _ test (serves_exit _ _ (rw current at c.in_err-sleep.ensures.serves c.args.cpu.now) c.from_residual-in_err-sleep.ensures.1))))

pub returns-then-own-priority-clause-serves : goal.returns-then-own-priority-clause-serves
unfolding resume
returns-then-own-priority-clause-serves g c =
    let current = c.in_ok-own.ensures.looks.regs 10 refl in
    let process = c.in_ok-own.ensures.looks.regs 17 refl ∙ c.in_ok-current_process.ensures.looks.regs 17 refl ∙ c.in_ok-priority.ensures.looks.regs 17 refl in
    let test = tested (small_number _ c.in_ok-own.ensures.range) (small_number _ c.in_ok-priority.ensures.range) c.if-own-priority.true in
    let other = c.in_ok-sleep.ensures.other ∙ process in
    serves_then _ (c.in_ok-priority.ensures.serves _)
    (serves_then _ c.in_ok-current_process.ensures.serves
    (serves_then _ (c.in_ok-own.ensures.serves _)
    (pick_true _ _ _ test (serves_then _ (rw current at c.in_ok-sleep.ensures.serves c.args.cpu.now) (rw other at c.transfer.ensures.serves)))))

pub returns-clause-serves : goal.returns-clause-serves
unfolding resume
returns-clause-serves g c =
    let process = c.in_ok-own.ensures.looks.regs 17 refl ∙ c.in_ok-current_process.ensures.looks.regs 17 refl ∙ c.in_ok-priority.ensures.looks.regs 17 refl in
    let test = tested (small_number _ c.in_ok-own.ensures.range) (small_number _ c.in_ok-priority.ensures.range) c.if-own-priority.false in
    let it = put_value _ _ 10 _ c.copy.ensures.told ∙ process in
    let ready = c.in_ok-own.ensures.fit.ready in
    serves_then _ (c.in_ok-priority.ensures.serves _)
    (serves_then _ c.in_ok-current_process.ensures.serves
    (serves_then _ (c.in_ok-own.ensures.serves _)
    (pick_false _ _ _ test (read_first ready (copy_quiet _ _ 10 17 (omega arith) ready (c.copy.ensures.fit.ready ready) c.copy.ensures.told) (rw it at c.sleep-2.ensures.serves c.args.cpu.now)))))
