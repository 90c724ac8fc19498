-- The mask chooses each bit.
use Rattle.std.proofs.Common.{◌-◌}
use Rattle.std.specs.Int.RustNames.{bit_and}
use Rattle.blue_model.specs.Forms.{left_bit}
use Rattle.bit_rows.proofs.BitLemmas.{left_bit-and, left_bit-or, left_bit-not, left_bit-lt, chosen}
use Rattle.bit_rows.proofs.word.merge.Goals as goal

pub returns : goal.returns
returns c j h =
    rw (
      left_bit-or (bit_and c.args.new c.args.mask) (bit_and c.args.old (65535 - c.args.mask)) j,
      left_bit-and c.args.new c.args.mask j,
      left_bit-and c.args.old (65535 - c.args.mask) j,
      left_bit-not c.args.mask j c.ranges.mask.fits,
    )
    (chosen (left_bit c.args.mask j) (left_bit c.args.new j) (left_bit c.args.old j)
    (left_bit-lt c.args.mask j) (left_bit-lt c.args.new j) (left_bit-lt c.args.old j))
