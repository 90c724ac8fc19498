-- What the rule makes of zeros and ones says what it makes of all.
use Rattle.std.proofs.Common.{ap, ◌∙◌}
use Rattle.blue_model.specs.Forms.{left_bit}
use Rattle.blue_model.specs.BitBlt.{rule_bit}
use Rattle.bit_rows.proofs.BitLemmas.{left_bit-zero, left_bit-ones}
use Rattle.bit_rows.proofs.MaskLemmas.{masks-rule}
use Rattle.bit_rows.proofs.word.Masks.of.Goals as goal

pub returns : goal.returns
returns c j s d h hs hd =
    let f = rule_bit c.args.rule in
    let zero = left_bit-zero j in
    let ones = left_bit-ones j in
    masks-rule f c.combine-neither.result c.combine-dest.result c.combine-source.result c.combine-both.result s d j hs hd
    (c.combine-neither.ensures j h ∙ ap (λ x. f x (left_bit 0 j)) zero ∙ ap (f 0) zero)
    (c.combine-dest.ensures j h ∙ ap (λ x. f x (left_bit 65535 j)) zero ∙ ap (f 0) ones)
    (c.combine-source.ensures j h ∙ ap (λ x. f x (left_bit 0 j)) ones ∙ ap (f 1) zero)
    (c.combine-both.ensures j h ∙ ap (λ x. f x (left_bit 65535 j)) ones ∙ ap (f 1) ones)
