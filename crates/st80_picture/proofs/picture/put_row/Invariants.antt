use Rattle.std.proofs.Common.{◌≡◌, ◌+◌, length}
use Rattle.st80_picture.specs.Pictures.{HasPixels, larger_of, row_bytes}
use Rattle.st80_picture.proofs.picture.put_row.Given as goal

abbrev pub invariant-loop-first : goal.invariant-loop-first
invariant-loop-first l = record {
  len : length l.rows ≡ length l.initial.rows + l.first;
  pixels : HasPixels l.rows (row_bytes l.width) (larger_of l.picture.width l.picture.height l.picture.rows l.times);
}
