use Rattle.std.proofs.Common.{refl}
use Rattle.blue_model.specs.Contexts.{park_new}
use Rattle.contexts.proofs.ServesLaws.{exits}
use Rattle.contexts.proofs.Steps.{register_then, numbers_then, pick_true, pick_false, done_serves}
use Rattle.contexts.proofs.context.park_new.Goals as goal

pub returns-in_err-store_field-clause-serves : goal.returns-in_err-store_field-clause-serves
unfolding park_new
returns-in_err-store_field-clause-serves g c =
    numbers_then _ (pick_true _ _ _ c.if-cpu.true (register_then _ _ refl (exits _ c.from_residual.ensures.1 (c.in_err-store_field.ensures.serves _))))

pub returns-in_ok-store_field-clause-serves : goal.returns-in_ok-store_field-clause-serves
unfolding park_new
returns-in_ok-store_field-clause-serves g c =
    numbers_then _ (pick_true _ _ _ c.if-cpu.true (register_then _ _ refl (c.in_ok-store_field.ensures.serves _)))

pub returns-else-cpu-clause-serves : goal.returns-else-cpu-clause-serves
unfolding park_new
returns-else-cpu-clause-serves g c = numbers_then _ (pick_false _ _ _ c.if-cpu.false (done_serves c.requires.fit.ready))
