use Rattle.std.proofs.Common.{◌≡◌, map}
use Rattle.std.specs.List.{concat, range_with_len}
use Rattle.st80_picture.specs.Png.{scanline}
use Rattle.st80_picture.specs.Pictures.{row_bytes}
use Rattle.st80_picture.proofs.chunks.scanlines.Given as goal

abbrev pub invariant-loop-y : goal.invariant-loop-y
invariant-loop-y l = l.lines ≡ concat (map (scanline l.picture.rows (row_bytes l.picture.width)) (range_with_len 0 l.y))
