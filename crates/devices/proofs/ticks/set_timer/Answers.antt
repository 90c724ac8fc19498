use Rattle.std.proofs.Common.{ap}
use Rattle.blue_model.specs.Devices.{set_timer}
use Rattle.contexts.proofs.ServesLaws.{serves_then, serves_exit}
use Rattle.contexts.proofs.Steps.{numbers_then, set_numbers_at, done_serves}
use Rattle.devices.proofs.ticks.set_timer.Goals as goal

pub returns-in_err-pop-clause-serves : goal.returns-in_err-pop-clause-serves
unfolding set_timer
returns-in_err-pop-clause-serves g c =
    let ready = c.put_semaphore.ensures.fit.ready in
    serves_then _ (c.put_semaphore.ensures.serves c.args.cpu.now)
    (numbers_then _ (serves_then _ (set_numbers_at _ (ap (λ o. record c.args.cpu.now { timer = o }) c.timer_at-cpu.ensures) (λ may. may) ready)
    (serves_exit _ _ (c.in_err-pop.ensures.serves _ ready) c.from_residual.ensures.1)))

pub returns-clause-serves : goal.returns-clause-serves
unfolding set_timer
returns-clause-serves g c =
    let ready = c.put_semaphore.ensures.fit.ready in
    serves_then _ (c.put_semaphore.ensures.serves c.args.cpu.now)
    (numbers_then _ (serves_then _ (set_numbers_at _ (ap (λ o. record c.args.cpu.now { timer = o }) c.timer_at-cpu.ensures) (λ may. may) ready)
    (serves_then _ (c.in_ok-pop.ensures.serves _ ready) (done_serves ready))))
