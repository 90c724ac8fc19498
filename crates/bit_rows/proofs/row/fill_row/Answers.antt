use Rattle.std.proofs.Common.{◌≡◌, ◌+◌, ◌*◌, ◌/◌, ◌%◌, length, refl, ◌∙◌, arith}
use Rattle.blue_model.specs.Forms.{left_bit, bit}
use Rattle.blue_model.specs.BitBlt.{rule_bit}
use Rattle.bit_rows.specs.Rows.{fill_bit}
use Rattle.bit_rows.proofs.RowLemmas.{bit-word, row-done, row-kept}
use Rattle.bit_rows.proofs.row.fill_row.Goals as goal

pub returns-then-first-past-clause-bits : goal.returns-then-first-past-clause-bits
unfolding fill_bit
returns-then-first-past-clause-bits c rule are n l =
    let old = c.args.row.now in
    let first = c.args.from / 16 in
    let past = c.word_past-past.result in
    row-done (λ n. rule_bit rule (left_bit c.args.halftone (n % 16)) (bit old n)) c.put_back.new.row c.fill_words.new.row old first past c.args.from c.args.to (length old) n refl c.word_past-past.ensures l
    (λ k j f p b.
    let column : (16 * k + j) % 16 ≡ j = omega arith in
    c.fill_words.ensures.made rule are k j f p b
    ∙ rw (column, bit-word old k j b) refl)
    c.fill_words.ensures.rest
    (c.put_back.ensures.back old refl refl)
    c.put_back.ensures.rest

pub returns-else-first-past-clause-bits : goal.returns-else-first-past-clause-bits
unfolding fill_bit
returns-else-first-past-clause-bits c rule are n l =
    let old = c.args.row.now in
    row-kept (λ n. rule_bit rule (left_bit c.args.halftone (n % 16)) (bit old n)) old (c.args.from / 16) c.word_past-past.result c.args.from c.args.to (length old) n refl c.word_past-past.ensures (omega arith) l c.requires.ordered
