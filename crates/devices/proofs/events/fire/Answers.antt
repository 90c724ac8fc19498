use Rattle.std.proofs.Common.{pos, refl}
use Rattle.blue_model.specs.Devices.{fire}
use Rattle.contexts.proofs.ServesLaws.{serves_then, serves_exit}
use Rattle.contexts.proofs.Steps.{register_then, numbers_then, set_numbers_at}
use Rattle.process_sched.proofs.RegisterLaws.{number_put}
use Rattle.devices.proofs.events.fire.Goals as goal

pub returns-in_err-signal-clause-serves : goal.returns-in_err-signal-clause-serves
unfolding fire
returns-in_err-signal-clause-serves g c = register_then 8 _ refl (serves_exit _ _ c.in_err-signal.ensures.serves c.from_residual.ensures.1)

pub returns-clause-serves : goal.returns-clause-serves
unfolding fire
returns-clause-serves g c =
    let ready = c.int.ensures.fit.ready c.in_ok-signal.ensures.fit.ready in
    register_then 8 _ refl (serves_then _ c.in_ok-signal.ensures.serves
    (serves_then _ (number_put 8 (pos 0) refl ready c.int.ensures.told) (numbers_then _ (set_numbers_at _ refl (λ may. may) ready))))
