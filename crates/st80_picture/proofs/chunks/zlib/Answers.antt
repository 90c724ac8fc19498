use Rattle.std.proofs.Common.{◌≡◌, ◌++◌, ◌+◌, ◌/◌, length, ◌∙◌, ap, arith}
use Rattle.std.specs.Int.{to_be_bytes, w32}
use Rattle.st80_picture.specs.Png.{block}
use Rattle.st80_picture.proofs.RowLaws.{part_more, zlib_done}
use Rattle.st80_picture.proofs.chunks.zlib.Goals as goal

pub loop-k-preserved : goal.loop-k-preserved
loop-k-preserved c =
    let bytes = c.args.bytes.now in
    c.in_ok-put_block.ensures ∙ ap (λ s. s ++ block bytes c.loop-k.k) c.loop-k.invariant ∙ part_more (block bytes) c.in_ok-stream.stream c.loop-k.k

pub returns : goal.returns
returns c =
    let bytes = c.args.bytes.now in
    let end : c.loop-k.k ≡ length bytes / 65535 + 1 = omega arith in
    zlib_done bytes _ _ _ _ c.loop-k.k c.in_ok-stream.ensures.ok c.loop-k.invariant end c.in_ok-extend.ensures.ok (c.to_be_bytes-sum.ensures ∙ ap (λ n. to_be_bytes w32 n) c.adler32.ensures)
