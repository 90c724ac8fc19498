use Rattle.std.proofs.Common.{refl}
use Rattle.blue_model.specs.Control.{execute_found}
use Rattle.contexts.proofs.ServesLaws.{serves_then}
use Rattle.contexts.proofs.Steps.{done_serves}
use Rattle.contexts.proofs.RegisterLaws.{put_serves}
use Rattle.prims_control.proofs.performs.execute_found.Goals as goal

pub returns-clause-serves : goal.returns-clause-serves
unfolding execute_found
returns-clause-serves g c =
    let ready = c.copy.ensures.fit.ready c.requires.fit.ready in
    serves_then _ (put_serves 5 22 refl c.requires.fit.ready ready c.copy.ensures.told) (serves_then _ (c.set_arguments.ensures.serves _ ready) (done_serves ready))
