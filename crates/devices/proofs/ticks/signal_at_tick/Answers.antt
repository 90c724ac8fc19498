use Rattle.std.proofs.Common.{refl, ◌∙◌}
use Rattle.blue_model.specs.Devices.{signal_at_tick}
use Rattle.contexts.proofs.ServesLaws.{serves_then, serves_exit}
use Rattle.contexts.proofs.TrialLaws.{found_then, none_found, finding_exit}
use Rattle.devices.proofs.ticks.signal_at_tick.Goals as goal

pub returns-in_err-stack-clause-serves : goal.returns-in_err-stack-clause-serves
unfolding signal_at_tick
returns-in_err-stack-clause-serves g c = serves_exit _ _ c.in_err-stack.ensures.serves c.from_residual.ensures.1

pub returns-in_err-stack-2-clause-serves : goal.returns-in_err-stack-2-clause-serves
unfolding signal_at_tick
returns-in_err-stack-2-clause-serves g c =
    serves_then _ c.in_ok-stack.ensures.serves (serves_exit _ _ c.in_err-stack-2.ensures.serves c.from_residual-in_err-stack-2.ensures.1)

pub returns-in_err-there-clause-serves : goal.returns-in_err-there-clause-serves
unfolding signal_at_tick
returns-in_err-there-clause-serves g c =
    let semaphore = c.in_ok-stack-2.ensures.looks.regs 11 refl in
    serves_then _ c.in_ok-stack.ensures.serves (serves_then _ c.in_ok-stack-2.ensures.serves
    (finding_exit _ _ (rw semaphore at c.in_err-there.ensures.serves c.args.cpu.now) c.from_residual-in_err-there.ensures.1))

pub returns-in_default-clause-serves : goal.returns-in_default-clause-serves
unfolding signal_at_tick
returns-in_default-clause-serves g c =
    let semaphore = c.in_ok-stack-2.ensures.looks.regs 11 refl in
    serves_then _ c.in_ok-stack.ensures.serves (serves_then _ c.in_ok-stack-2.ensures.serves
    (none_found _ c.in_default.is (rw semaphore at c.in_ok-there.ensures.serves c.args.cpu.now)))

pub returns-in_err-tick-clause-serves : goal.returns-in_err-tick-clause-serves
unfolding signal_at_tick
returns-in_err-tick-clause-serves g c =
    let semaphore = c.in_ok-stack-2.ensures.looks.regs 11 refl in
    let bytes = c.in_ok-there.ensures.looks.regs 10 refl in
    serves_then _ c.in_ok-stack.ensures.serves (serves_then _ c.in_ok-stack-2.ensures.serves
    (found_then _ c.in-Some.is (rw semaphore at c.in_ok-there.ensures.serves c.args.cpu.now)
    (finding_exit _ _ (rw bytes at c.in_err-tick.ensures.serves c.args.cpu.now) c.from_residual-in_err-tick.ensures.1)))

pub returns-in_default-2-clause-serves : goal.returns-in_default-2-clause-serves
unfolding signal_at_tick
returns-in_default-2-clause-serves g c =
    let semaphore = c.in_ok-stack-2.ensures.looks.regs 11 refl in
    let bytes = c.in_ok-there.ensures.looks.regs 10 refl in
    serves_then _ c.in_ok-stack.ensures.serves (serves_then _ c.in_ok-stack-2.ensures.serves
    (found_then _ c.in-Some.is (rw semaphore at c.in_ok-there.ensures.serves c.args.cpu.now)
    (none_found _ c.in_default-2.is (rw bytes at c.in_ok-tick.ensures.serves c.args.cpu.now))))

pub returns-clause-serves : goal.returns-clause-serves
unfolding signal_at_tick
returns-clause-serves g c =
    let semaphore = c.in_ok-stack-2.ensures.looks.regs 11 refl in
    let bytes = c.in_ok-there.ensures.looks.regs 10 refl in
    let later = c.in_ok-tick.ensures.looks.regs 11 refl ∙ c.in_ok-there.ensures.looks.regs 11 refl ∙ semaphore in
    serves_then _ c.in_ok-stack.ensures.serves (serves_then _ c.in_ok-stack-2.ensures.serves
    (found_then _ c.in-Some.is (rw semaphore at c.in_ok-there.ensures.serves c.args.cpu.now)
    (found_then _ c.in-Some-2.is (rw bytes at c.in_ok-tick.ensures.serves c.args.cpu.now) (rw later at c.set_timer.ensures.serves))))
