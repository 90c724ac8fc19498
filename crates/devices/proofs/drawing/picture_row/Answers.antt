use Rattle.std.proofs.Common.{arith}
use Rattle.object_memory.proofs.LooksLaws.{Looks-refl}
use Rattle.blue_model.specs.Devices.{display_row}
use Rattle.contexts.proofs.ServesLaws.{serves_stop}
use Rattle.devices.proofs.PictureLaws.{exits_front, row_none, row_missing, row_drawn, row_there}
use Rattle.devices.proofs.drawing.picture_row.Goals as goal

pub returns-in_err-width-clause-serves : goal.returns-in_err-width-clause-serves
unfolding display_row
returns-in_err-width-clause-serves g c = exits_front _ _ c.from_residual.ensures.1 (serves_stop _ c.in_err-width.ensures.serves)

pub returns-in_default-clause-serves : goal.returns-in_default-clause-serves
returns-in_default-clause-serves g c = row_none c.args.y (rw c.in_default.is at c.in_ok-width.ensures.serves)

pub returns-then-height-y-clause-serves : goal.returns-then-height-y-clause-serves
returns-then-height-y-clause-serves g c = row_missing c.args.y c.in-Some.width c.in-Some.height _ (rw c.in-Some.is at c.in_ok-width.ensures.serves) c.requires.shown c.if-height-y.true

pub draw_row-requires-clause-row : goal.draw_row-requires-clause-row
draw_row-requires-clause-row g c =
    let u = g.M.ObjectMemory.told c.display_form.new.m in
    row_there u u c.in-Some.width c.in-Some.height c.args.y c.in_ok-width.ensures.fit.ready (Looks-refl u) (rw c.in-Some.is at c.in_ok-width.ensures.rows) (omega (arith, c.if-height-y.false))

pub returns-clause-serves : goal.returns-clause-serves
returns-clause-serves g c = row_drawn c.draw_row.result c.draw_row.new.out c.args.y c.in-Some.width c.in-Some.height (rw c.in-Some.is at c.in_ok-width.ensures.serves) (c.draw_row.ensures.serves c.args.cpu.now) c.draw_row.ensures.bytes
