use Rattle.std.proofs.Common.{refl, arith}
use Rattle.object_memory.proofs.LooksLaws.{put_value}
use Rattle.blue_model.specs.Devices.{display_form}
use Rattle.contexts.proofs.Steps.{numbers_then, register_then, pick_true, pick_false, done_serves, read_first}
use Rattle.contexts.proofs.RegisterLaws.{copy_quiet}
use Rattle.devices.proofs.drawing.display_form.Goals as goal

pub returns-then-not-cpu-clause-serves : goal.returns-then-not-cpu-clause-serves
unfolding display_form
returns-then-not-cpu-clause-serves g c = numbers_then _ (register_then 9 _ refl (pick_false _ _ _ c.if-not-cpu.true (done_serves c.requires.fit.ready)))

pub returns-clause-serves : goal.returns-clause-serves
unfolding display_form
returns-clause-serves g c =
    let before = c.copy.ensures.fit.ready c.requires.fit.ready in
    let form = put_value _ _ 11 _ c.copy.ensures.told in
    numbers_then _ (register_then 9 _ refl (pick_true _ _ _ c.if-not-cpu.false
    (read_first c.requires.fit.ready (copy_quiet _ _ 11 9 (omega arith) c.requires.fit.ready before c.copy.ensures.told) (rw form at c.form_of.ensures.serves c.args.cpu.now))))
