use Rattle.std.proofs.Common.{sym, ◌∙◌}
use Rattle.blue_model.specs.Devices.{check_timer}
use Rattle.contexts.proofs.Steps.{numbers_then, pick_true, pick_false, done_serves}
use Rattle.devices.proofs.events.check_timer.Goals as goal

pub returns-then-is_reached-clause-serves : goal.returns-then-is_reached-clause-serves
unfolding check_timer
returns-then-is_reached-clause-serves g c = numbers_then _ (pick_true _ _ _ (sym (rw c.clock.ensures at c.is_reached.ensures) ∙ c.if-is_reached.true) c.fire.ensures.serves)

pub returns-clause-serves : goal.returns-clause-serves
unfolding check_timer
returns-clause-serves g c = numbers_then _ (pick_false _ _ _ (sym (rw c.clock.ensures at c.is_reached.ensures) ∙ c.if-is_reached.false) (done_serves c.requires.fit.ready))
