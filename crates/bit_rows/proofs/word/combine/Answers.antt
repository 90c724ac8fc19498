-- Each arm's word has the bits that the rule makes.
use Rattle.std.proofs.Common.{◌≡◌, ◌-◌, ◌<◌, refl, ap, ◌∙◌, arith}
use Rattle.std.proofs.lemmas.Nat.{or_of_16, xor_of_16, and_le_l}
use Rattle.std.specs.Int.RustNames.{bit_or, bit_xor, bit_and}
use Rattle.blue_model.specs.BitBlt.{rule_bit, not_bit}
use Rattle.bit_rows.proofs.BitLemmas.{left_bit-and, left_bit-or, left_bit-xor, left_bit-not, left_bit-zero, left_bit-ones}
use Rattle.bit_rows.proofs.word.combine.Goals as goal

pub returns-in-0 : goal.returns-in-0
unfolding rule_bit
returns-in-0 c j h = rw c.in-0.is (left_bit-zero j)

pub returns-in-1 : goal.returns-in-1
unfolding rule_bit
returns-in-1 c j h = rw c.in-1.is (left_bit-and c.args.s c.args.d j)

pub returns-in-2 : goal.returns-in-2
unfolding rule_bit
returns-in-2 c j h = rw c.in-2.is (rw (left_bit-and c.args.s (65535 - c.args.d) j, left_bit-not c.args.d j c.ranges.d.fits) refl)

pub returns-in-3 : goal.returns-in-3
unfolding rule_bit
returns-in-3 c j h = rw c.in-3.is refl

pub returns-in-4 : goal.returns-in-4
unfolding rule_bit
returns-in-4 c j h = rw c.in-4.is (rw (left_bit-and (65535 - c.args.s) c.args.d j, left_bit-not c.args.s j c.ranges.s.fits) refl)

pub returns-in-5 : goal.returns-in-5
unfolding rule_bit
returns-in-5 c j h = rw c.in-5.is refl

pub returns-in-6 : goal.returns-in-6
unfolding rule_bit
returns-in-6 c j h = rw c.in-6.is (left_bit-xor c.args.s c.args.d j)

pub returns-in-7 : goal.returns-in-7
unfolding rule_bit
returns-in-7 c j h = rw c.in-7.is (left_bit-or c.args.s c.args.d j)

pub returns-in-8 : goal.returns-in-8
unfolding rule_bit
returns-in-8 c j h =
    rw c.in-8.is
    (left_bit-not (bit_or c.args.s c.args.d) j (or_of_16 c.args.s c.args.d c.ranges.s.fits c.ranges.d.fits)
    ∙ ap not_bit (left_bit-or c.args.s c.args.d j))

pub returns-in-9 : goal.returns-in-9
unfolding rule_bit
returns-in-9 c j h =
    rw c.in-9.is
    (left_bit-not (bit_xor c.args.s c.args.d) j (xor_of_16 c.args.s c.args.d c.ranges.s.fits c.ranges.d.fits)
    ∙ ap not_bit (left_bit-xor c.args.s c.args.d j))

pub returns-in-10 : goal.returns-in-10
unfolding rule_bit
returns-in-10 c j h = rw c.in-10.is (left_bit-not c.args.d j c.ranges.d.fits)

pub returns-in-11 : goal.returns-in-11
unfolding rule_bit
returns-in-11 c j h = rw c.in-11.is (rw (left_bit-or c.args.s (65535 - c.args.d) j, left_bit-not c.args.d j c.ranges.d.fits) refl)

pub returns-in-12 : goal.returns-in-12
unfolding rule_bit
returns-in-12 c j h = rw c.in-12.is (left_bit-not c.args.s j c.ranges.s.fits)

pub returns-in-13 : goal.returns-in-13
unfolding rule_bit
returns-in-13 c j h = rw c.in-13.is (rw (left_bit-or (65535 - c.args.s) c.args.d j, left_bit-not c.args.s j c.ranges.s.fits) refl)

pub returns-in-14 : goal.returns-in-14
unfolding rule_bit
returns-in-14 c j h =
    let low : bit_and c.args.s c.args.d < 65536 = omega (arith, and_le_l c.args.s c.args.d, c.ranges.s.fits) in
    rw c.in-14.is
    (left_bit-not (bit_and c.args.s c.args.d) j low
    ∙ ap not_bit (left_bit-and c.args.s c.args.d j))

pub returns-in_default : goal.returns-in_default
unfolding rule_bit
returns-in_default c j h = let e : c.args.rule ≡ 15 = omega arith in rw e (left_bit-ones j)
