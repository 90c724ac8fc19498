use Rattle.std.proofs.Common.{◌≡◌, ℕ, ◌+◌, ◌*◌, ◌/◌, Bool, ap, ◌∙◌}
use Rattle.std.specs.Int.{from_bool}
use Rattle.st80_picture.specs.Pictures.{black_in}
use Rattle.st80_picture.proofs.PixelLaws.{bit_more, byte_room}
use Rattle.st80_picture.proofs.picture.eight_of.Goals as goal

pub loop-bit-preserved : goal.loop-bit-preserved
loop-bit-preserved c =
    let p = c.args.picture.now in
    let is : ℕ → Bool = λ i. black_in p.width p.height p.rows ((8 * c.args.first + i) / c.args.times) c.args.y in
    let value : c.from.result ≡ from_bool (is c.loop-bit.bit) = c.from.ensures ∙ ap from_bool c.is_black-black.ensures in
    record {
      small = byte_room c.loop-bit.byte c.loop-bit.bit c.from.result (is c.loop-bit.bit) c.loop-bit.invariant.small value;
      bits = bit_more c.loop-bit.byte c.loop-bit.bit c.from.result is c.loop-bit.invariant.bits value;
    }
