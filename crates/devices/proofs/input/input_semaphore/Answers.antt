use Rattle.std.proofs.Common.{refl}
use Rattle.blue_model.specs.Devices.{input_semaphore, set_input}
use Rattle.contexts.proofs.ServesLaws.{serves_then, serves_exit}
use Rattle.contexts.proofs.Steps.{numbers_then, set_numbers_at, done_serves}
use Rattle.contexts.proofs.TrialLaws.{found_then, none_found, finding_exit}
use Rattle.devices.proofs.input.input_semaphore.Goals as goal

pub returns-in_err-stack-clause-serves : goal.returns-in_err-stack-clause-serves
unfolding input_semaphore
returns-in_err-stack-clause-serves g c = serves_exit _ _ c.in_err-stack.ensures.serves c.from_residual.ensures.1

pub returns-in_err-there-clause-serves : goal.returns-in_err-there-clause-serves
unfolding input_semaphore
returns-in_err-there-clause-serves g c =
    serves_then _ c.in_ok-stack.ensures.serves
    (finding_exit _ _ (c.in_err-there.ensures.serves _) c.from_residual-in_err-there.ensures.1)

pub returns-in_default-clause-serves : goal.returns-in_default-clause-serves
unfolding input_semaphore
returns-in_default-clause-serves g c =
    serves_then _ c.in_ok-stack.ensures.serves
    (none_found _ c.in_default.is (c.in_ok-there.ensures.serves _))

pub returns-in_err-pop-clause-serves : goal.returns-in_err-pop-clause-serves
unfolding input_semaphore set_input
returns-in_err-pop-clause-serves g c =
    let same = c.in_ok-there.ensures.looks.regs 11 refl in
    let ready = c.put_semaphore.ensures.fit.ready in
    serves_then _ c.in_ok-stack.ensures.serves
    (found_then _ c.in-Some.is (c.in_ok-there.ensures.serves _)
    (serves_then _ (rw same at c.put_semaphore.ensures.serves c.args.cpu.now)
    (numbers_then _ (serves_then _ (set_numbers_at _ refl (λ may. may) ready)
    (serves_exit _ _ (c.in_err-pop.ensures.serves _ ready) c.from_residual-in_err-pop.ensures.1)))))

pub returns-clause-serves : goal.returns-clause-serves
unfolding input_semaphore set_input
returns-clause-serves g c =
    let same = c.in_ok-there.ensures.looks.regs 11 refl in
    let ready = c.put_semaphore.ensures.fit.ready in
    serves_then _ c.in_ok-stack.ensures.serves
    (found_then _ c.in-Some.is (c.in_ok-there.ensures.serves _)
    (serves_then _ (rw same at c.put_semaphore.ensures.serves c.args.cpu.now)
    (numbers_then _ (serves_then _ (set_numbers_at _ refl (λ may. may) ready)
    (serves_then _ (c.in_ok-pop.ensures.serves _ ready) (done_serves ready))))))
