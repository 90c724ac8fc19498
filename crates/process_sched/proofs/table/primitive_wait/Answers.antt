use Rattle.std.proofs.Common.{refl}
use Rattle.blue_model.specs.Processes.{primitive_wait}
use Rattle.contexts.proofs.ServesLaws.{serves_then, serves_exit}
use Rattle.contexts.proofs.Steps.{done_serves}
use Rattle.contexts.proofs.TrialLaws.{found_then, none_found, finding_exit}
use Rattle.process_sched.proofs.table.primitive_wait.Goals as goal

pub returns-in_err-stack-clause-serves : goal.returns-in_err-stack-clause-serves
unfolding primitive_wait
returns-in_err-stack-clause-serves g c = serves_exit _ _ c.in_err-stack.ensures.serves c.from_residual.ensures.1

pub returns-in_err-peek_number-clause-serves : goal.returns-in_err-peek_number-clause-serves
unfolding primitive_wait
returns-in_err-peek_number-clause-serves g c =
    serves_then _ c.in_ok-stack.ensures.serves
    (finding_exit _ _ (c.in_err-peek_number.ensures.serves _) c.from_residual-in_err-peek_number.ensures.1)

pub returns-in_default-clause-serves : goal.returns-in_default-clause-serves
unfolding primitive_wait
returns-in_default-clause-serves g c =
    serves_then _ c.in_ok-stack.ensures.serves
    (none_found _ c.in_default.is (c.in_ok-peek_number.ensures.serves _))

pub returns-in_err-wait-clause-serves : goal.returns-in_err-wait-clause-serves
unfolding primitive_wait
returns-in_err-wait-clause-serves g c =
    let semaphore = c.in_ok-peek_number.ensures.looks.regs 11 refl in
    serves_then _ c.in_ok-stack.ensures.serves
    (found_then _ c.in-Some.is (c.in_ok-peek_number.ensures.serves _)
    (serves_exit _ _ (rw semaphore at c.in_err-wait.ensures.serves) c.from_residual-in_err-wait.ensures.1))

pub returns-clause-serves : goal.returns-clause-serves
unfolding primitive_wait
returns-clause-serves g c =
    let semaphore = c.in_ok-peek_number.ensures.looks.regs 11 refl in
    serves_then _ c.in_ok-stack.ensures.serves
    (found_then _ c.in-Some.is (c.in_ok-peek_number.ensures.serves _)
    (serves_then _ (rw semaphore at c.in_ok-wait.ensures.serves) (done_serves c.in_ok-wait.ensures.fit.ready)))
