use Rattle.std.proofs.Common.{length, ◌∙◌, ap, arith}
use Rattle.st80_picture.proofs.RowLaws.{head_length, png_done}
use Rattle.st80_picture.proofs.chunks.png.Goals as goal

pub put_chunk-requires : goal.put_chunk-requires
put_chunk-requires c =
    let p = c.args.picture.now in
    omega (arith, head_length p.width p.height, ap length (c.bytes-2.ensures ∙ c.in_ok-head.ensures))

pub returns-clause-file : goal.returns-clause-file
returns-clause-file c =
    let p = c.args.picture.now in
    png_done p.width p.height p.rows _ _ _ _ _ _ _ c.in_ok-file.ensures.ok c.in_ok-put_chunk.ensures (c.bytes-2.ensures ∙ c.in_ok-head.ensures) c.in_ok-put_chunk-2.ensures (c.bytes-3.ensures ∙ c.in_ok-content.ensures) (c.bytes.ensures ∙ c.in_ok-lines.ensures) c.in_ok-put_chunk-3.ensures
