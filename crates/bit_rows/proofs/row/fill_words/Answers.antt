use Rattle.std.proofs.Common.{rules, ◌≡◌, ◌+◌, ◌%◌, ◌<◌, min, length, get_or, ap, ◌∙◌, arith, inr}
use Rattle.std.specs.Int.RustNames.{bit_and, bit_xor}
use Rattle.std.proofs.lemmas.Nat.{xor_of_16, and_le_l}
use Rattle.blue_model.specs.Forms.{left_bit}
use Rattle.blue_model.specs.BitBlt.{rule_bit}
use Rattle.bit_rows.proofs.BitLemmas.{left_bit-lt}
use Rattle.bit_rows.proofs.MaskLemmas.{filled-word}
use Rattle.bit_rows.proofs.RowLemmas.{made_more, rest_more, fits_more}
use Rattle.bit_rows.proofs.row.fill_words.Goals as goal

pub loop-i-preserved : goal.loop-i-preserved
loop-i-preserved c =
    let i = c.loop-i.i in
    let row = c.loop-i.row in
    let at : i < length row = omega arith in
    let kept = c.loop-i.invariant in
    let d = get_or row i 0 in
    let w = bit_xor (bit_and d c.filling-keep.result.0) c.filling-keep.result.1 in
    record {
      from = omega arith;
      made = λ rule are.
          made_more (λ k j. rule_bit rule (left_bit c.args.halftone j) (left_bit (get_or c.args.row.now k 0) j)) row c.args.first i w at (kept.made rule are)
          (λ j h.
          filled-word d c.filling-keep.result.0 c.filling-keep.result.1 j
          ∙ c.filling-keep.ensures rule j (left_bit d j) are h (left_bit-lt d j)
          ∙ ap (λ x. rule_bit rule (left_bit c.args.halftone j) (left_bit x j)) (kept.rest i (inr (omega arith))));
      rest = rest_more row c.args.row.now c.args.first i w kept.from kept.rest;
      fits = fits_more row i w at (xor_of_16 (bit_and d c.filling-keep.result.0) c.filling-keep.result.1 (omega (arith, and_le_l d c.filling-keep.result.0, kept.fits i)) (search rules)) kept.fits;
    }
