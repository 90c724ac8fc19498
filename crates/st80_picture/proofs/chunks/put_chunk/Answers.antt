use Rattle.std.proofs.Common.{◌++◌, ◌∙◌, ap}
use Rattle.st80_picture.proofs.RowLaws.{chunk_put}
use Rattle.st80_picture.proofs.chunks.put_chunk.Goals as goal

pub returns : goal.returns
returns c =
    let checked = c.in_ok-extend.ensures.ok ∙ ap (λ s. s ++ c.args.content.now) c.in_ok-checked.ensures.ok in
    chunk_put c.args.kind.now c.args.content.now _ _ _ _ _ _ _ _ _ c.in_ok-extend-2.ensures.ok c.to_be_bytes.ensures c.in_ok-extend-3.ensures.ok (c.bytes.ensures ∙ checked) c.in_ok-extend-4.ensures.ok c.to_be_bytes-2.ensures c.crc32.ensures (c.bytes-2.ensures ∙ checked)
