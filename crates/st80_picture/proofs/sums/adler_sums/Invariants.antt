use Rattle.std.proofs.Common.{◌≡◌, ◌<◌, take}
use Rattle.std.specs.List.{fold}
use Rattle.st80_picture.specs.Sums.{adler_byte}
use Rattle.st80_picture.proofs.sums.adler_sums.Given as goal

abbrev pub invariant-loop-byte : goal.invariant-loop-byte
invariant-loop-byte l = record {
  sums : l.sums ≡ fold adler_byte (record { low = 1; high = 0 }) (take l.byte-index l.bytes);
  low : l.sums.low < 65521;
  high : l.sums.high < 65521;
}
