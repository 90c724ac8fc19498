use Rattle.contexts.proofs.ServesLaws.{serves_then, serves_exit}
use Rattle.contexts.proofs.Steps.{done_same}
use Rattle.devices.specs.Pictures.{display_extent}
use Rattle.devices.proofs.PictureLaws.{extent_back}
use Rattle.devices.proofs.drawing.picture_size.Goals as goal

pub returns-in_err-extent-clause-serves : goal.returns-in_err-extent-clause-serves
unfolding display_extent
returns-in_err-extent-clause-serves g c = serves_exit _ _ c.in_err-extent.ensures.serves c.from_residual.ensures.1

pub returns-clause-serves : goal.returns-clause-serves
unfolding display_extent
returns-clause-serves g c = serves_then _ c.in_ok-extent.ensures.serves (done_same (extent_back c.in_ok-extent.extent ((g.M.ObjectMemory.told c.display_form.new.m).regs 13)) c.in_ok-extent.ensures.fit.ready)
