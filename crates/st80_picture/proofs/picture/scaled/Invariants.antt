use Rattle.std.proofs.Common.{◌≡◌, ◌*◌, length}
use Rattle.st80_picture.specs.Pictures.{HasPixels, larger_of, row_bytes}
use Rattle.st80_picture.proofs.picture.scaled.Given as goal

abbrev pub invariant-loop-y : goal.invariant-loop-y
invariant-loop-y l = record {
  len : length l.rows ≡ l.y * row_bytes l.width;
  pixels : HasPixels l.rows (row_bytes l.width) (larger_of l.picture.width l.picture.height l.picture.rows l.times);
}
