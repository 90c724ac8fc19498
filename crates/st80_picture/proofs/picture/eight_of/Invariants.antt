use Rattle.std.proofs.Common.{◌+◌, ◌*◌, ◌/◌, ◌^◌, ◌<◌}
use Rattle.st80_picture.specs.Pictures.{HasBits, black_in}
use Rattle.st80_picture.proofs.picture.eight_of.Given as goal

abbrev pub invariant-loop-bit : goal.invariant-loop-bit
invariant-loop-bit l = record {
  small : l.byte < 2 ^ l.bit;
  bits : HasBits l.byte (λ i. black_in l.picture.width l.picture.height l.picture.rows ((8 * l.first + i) / l.times) l.y) l.bit;
}
