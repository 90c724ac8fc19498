use Rattle.bytecodes.proofs.TryLaws.{try_large}
use Rattle.std.proofs.Common.{sym, ◌∙◌}
use Rattle.bytecodes.proofs.TryLaws.{try_integer, try_object, try_control, try_process, try_blit, try_device}
use Rattle.devices.proofs.KeepLaws.{keeps_never}
use Rattle.bytecodes.proofs.tries.try_primitive.Goals as goal

pub returns-then-is_control-clause-serves : goal.returns-then-is_control-clause-serves
returns-then-is_control-clause-serves g c = try_control _ c.args.index (sym c.is_control.ensures ∙ c.if-is_control.true) c.run.ensures.serves

pub returns-then-is_process-clause-serves : goal.returns-then-is_process-clause-serves
returns-then-is_process-clause-serves g c =
    try_process _ c.args.index (sym c.is_control.ensures ∙ c.if-is_control.false) (sym c.is_process.ensures ∙ c.if-is_process.true) c.run-then-is_process.ensures.serves

pub returns-then-is_blit-clause-serves : goal.returns-then-is_blit-clause-serves
returns-then-is_blit-clause-serves g c =
    try_blit _ c.args.index (sym c.is_control.ensures ∙ c.if-is_control.false) (sym c.is_process.ensures ∙ c.if-is_process.false)
    (sym c.is_blit.ensures ∙ c.if-is_blit.true) c.run-then-is_blit.ensures.serves

pub returns-then-is_device-clause-serves : goal.returns-then-is_device-clause-serves
returns-then-is_device-clause-serves g c =
    try_device _ c.args.index (sym c.is_control.ensures ∙ c.if-is_control.false) (sym c.is_process.ensures ∙ c.if-is_process.false)
    (sym c.is_blit.ensures ∙ c.if-is_blit.false) (sym c.is_device.ensures ∙ c.if-is_device.true) c.run-then-is_device.ensures.speaks

pub returns-then-is_large-clause-serves : goal.returns-then-is_large-clause-serves
returns-then-is_large-clause-serves g c =
    try_large _ c.args.index (sym c.is_control.ensures ∙ c.if-is_control.false) (sym c.is_process.ensures ∙ c.if-is_process.false)
    (sym c.is_blit.ensures ∙ c.if-is_blit.false) (sym c.is_device.ensures ∙ c.if-is_device.false) (sym c.is_large.ensures ∙ c.if-is_large.true) c.run-then-is_large.ensures.serves

pub returns-then-index-lt-PRIMITIVE_AT-clause-serves : goal.returns-then-index-lt-PRIMITIVE_AT-clause-serves
returns-then-index-lt-PRIMITIVE_AT-clause-serves g c =
    try_integer _ c.args.index (sym c.is_control.ensures ∙ c.if-is_control.false) (sym c.is_process.ensures ∙ c.if-is_process.false)
    (sym c.is_blit.ensures ∙ c.if-is_blit.false) (sym c.is_device.ensures ∙ c.if-is_device.false) (sym c.is_large.ensures ∙ c.if-is_large.false) c.if-index-lt-PRIMITIVE_AT.true c.run-then-index-lt-PRIMITIVE_AT.ensures.serves

pub returns-else-index-lt-PRIMITIVE_AT-clause-serves : goal.returns-else-index-lt-PRIMITIVE_AT-clause-serves
returns-else-index-lt-PRIMITIVE_AT-clause-serves g c =
    try_object _ c.args.index (sym c.is_control.ensures ∙ c.if-is_control.false) (sym c.is_process.ensures ∙ c.if-is_process.false)
    (sym c.is_blit.ensures ∙ c.if-is_blit.false) (sym c.is_device.ensures ∙ c.if-is_device.false) (sym c.is_large.ensures ∙ c.if-is_large.false) c.if-index-lt-PRIMITIVE_AT.false c.run-else-index-lt-PRIMITIVE_AT.ensures.serves

pub returns-then-is_control-clause-keeps : goal.returns-then-is_control-clause-keeps
returns-then-is_control-clause-keeps g c = keeps_never _ _ c.run.ensures.never_keeps

pub returns-then-is_process-clause-keeps : goal.returns-then-is_process-clause-keeps
returns-then-is_process-clause-keeps g c = keeps_never _ _ c.run-then-is_process.ensures.never_keeps

pub returns-then-is_blit-clause-keeps : goal.returns-then-is_blit-clause-keeps
returns-then-is_blit-clause-keeps g c = keeps_never _ _ c.run-then-is_blit.ensures.never_keeps

pub returns-then-is_large-clause-keeps : goal.returns-then-is_large-clause-keeps
returns-then-is_large-clause-keeps g c = keeps_never _ _ c.run-then-is_large.ensures.never_keeps

pub returns-then-index-lt-PRIMITIVE_AT-clause-keeps : goal.returns-then-index-lt-PRIMITIVE_AT-clause-keeps
returns-then-index-lt-PRIMITIVE_AT-clause-keeps g c = keeps_never _ _ c.run-then-index-lt-PRIMITIVE_AT.ensures.never_keeps

pub returns-else-index-lt-PRIMITIVE_AT-clause-keeps : goal.returns-else-index-lt-PRIMITIVE_AT-clause-keeps
returns-else-index-lt-PRIMITIVE_AT-clause-keeps g c = keeps_never _ _ c.run-else-index-lt-PRIMITIVE_AT.ensures.never_keeps
