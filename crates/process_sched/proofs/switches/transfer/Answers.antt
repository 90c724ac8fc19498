use Rattle.std.proofs.Common.{refl}
use Rattle.blue_model.specs.Processes.{transfer}
use Rattle.contexts.proofs.ServesLaws.{serves_then}
use Rattle.contexts.proofs.Steps.{numbers_then, set_numbers_at}
use Rattle.contexts.proofs.RegisterLaws.{put_serves}
use Rattle.process_sched.proofs.switches.transfer.Goals as goal

pub returns-clause-serves : goal.returns-clause-serves
unfolding transfer
returns-clause-serves g c =
    let ready = c.copy.ensures.fit.ready c.requires.fit.ready in
    serves_then _ (put_serves 6 17 refl c.requires.fit.ready ready c.copy.ensures.told) (numbers_then _ (set_numbers_at _ refl (λ may. may) ready))
