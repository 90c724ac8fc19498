use Rattle.std.proofs.Common.{◌≡◌, ◌++◌, ◌∙◌, ap, [], arith}
use Rattle.st80_picture.specs.Png.{scanline}
use Rattle.st80_picture.specs.Pictures.{row_bytes}
use Rattle.st80_picture.proofs.RowLaws.{part_more, scanline_put, scanlines_done}
use Rattle.st80_picture.proofs.chunks.scanlines.Goals as goal

pub loop-y-preserved : goal.loop-y-preserved
loop-y-preserved c =
    let p = c.args.picture.now in
    let y = c.loop-y.y in
    scanline_put p.rows (row_bytes p.width) y _ _ _ _ c.in_ok-push.ensures.ok c.in_ok-put_inverted.ensures c.row.ensures
    ∙ ap (λ s. s ++ scanline p.rows (row_bytes p.width) y) c.loop-y.invariant
    ∙ part_more (scanline p.rows (row_bytes p.width)) [] y

pub returns : goal.returns
returns c =
    let p = c.args.picture.now in
    let end : c.loop-y.y ≡ p.height = omega arith in
    scanlines_done p.width p.height c.loop-y.y p.rows _ c.loop-y.invariant end
