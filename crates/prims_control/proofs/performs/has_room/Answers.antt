use Rattle.std.proofs.Common.{refl}
use Rattle.blue_model.specs.Control.{has_room}
use Rattle.contexts.proofs.ServesLaws.{serves_then, serves_exit}
use Rattle.contexts.proofs.Steps.{register_then, numbers_then, done_same}
use Rattle.prims_control.proofs.performs.has_room.Goals as goal

pub returns-in_err-len-clause-serves : goal.returns-in_err-len-clause-serves
unfolding has_room
returns-in_err-len-clause-serves g c = numbers_then _ (register_then _ _ refl (serves_exit _ _ (c.in_err-len.ensures.serves _) c.from_residual.ensures.1))

pub returns-clause-serves : goal.returns-clause-serves
unfolding has_room
returns-clause-serves g c = numbers_then _ (register_then _ _ refl (serves_then _ (c.in_ok-len.ensures.serves _) (done_same c.fits.ensures c.in_ok-len.ensures.fit.ready)))
