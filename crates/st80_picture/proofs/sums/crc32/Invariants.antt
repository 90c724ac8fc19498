use Rattle.std.proofs.Common.{◌≡◌, take}
use Rattle.std.specs.List.{fold}
use Rattle.st80_picture.specs.Sums.{crc_byte}
use Rattle.st80_picture.proofs.sums.crc32.Given as goal

abbrev pub invariant-loop-byte : goal.invariant-loop-byte
invariant-loop-byte l = l.register ≡ fold crc_byte 0xFFFFFFFF (take l.byte-index l.bytes)
