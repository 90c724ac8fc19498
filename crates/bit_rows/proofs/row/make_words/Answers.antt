use Rattle.std.proofs.Common.{rules, ◌+◌, ◌*◌, ◌/◌, ◌%◌, ◌<◌, length, get_or, min, refl, ap, ◌∙◌, arith, inr}
use Rattle.blue_model.specs.Forms.{left_bit, bit}
use Rattle.blue_model.specs.BitBlt.{rule_bit}
use Rattle.bit_rows.proofs.BitLemmas.{left_bit-and}
use Rattle.bit_rows.proofs.RowLemmas.{cut-source, made_more, rest_more, fits_more}
use Rattle.bit_rows.proofs.row.make_words.Goals as goal

pub loop-i-preserved : goal.loop-i-preserved
loop-i-preserved c =
    let i = c.loop-i.i in
    let row = c.loop-i.row in
    let at : i < length row = omega arith in
    let kept = c.loop-i.invariant in
    let source = c.args.source.now in
    record {
      from = omega arith;
      made = λ rule are.
          made_more (λ k j. rule_bit rule (min (bit source (c.args.skip + (16 * k + j))) (left_bit c.args.halftone j)) (left_bit (get_or c.args.row.now k 0) j)) row c.args.first i c.make.result at (kept.made rule are)
          (λ j h.
          c.make.ensures rule j are h
          ∙ ap (λ x. rule_bit rule x (left_bit (get_or row i 0) j))
          (left_bit-and c.source_word-s.result c.args.halftone j
          ∙ ap (λ b. min b (left_bit c.args.halftone j)) (cut-source source c.source_word-s.result (c.args.skip / 16) i c.args.skip (c.args.skip % 16) j refl refl h (c.source_word-s.ensures j h)))
          ∙ ap (λ x. rule_bit rule (min (bit source (c.args.skip + (16 * i + j))) (left_bit c.args.halftone j)) (left_bit x j)) (kept.rest i (inr (omega arith))));
      rest = rest_more row c.args.row.now c.args.first i c.make.result kept.from kept.rest;
      fits = fits_more row i c.make.result at (search rules) kept.fits;
    }
