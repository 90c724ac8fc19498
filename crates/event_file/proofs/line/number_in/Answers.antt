use Rattle.std.proofs.Common.{◌≡◌, ◌∙◌, sym, ap, decimal, arith}
use Rattle.event_file.proofs.TextLaws.{reads-decimal}
use Rattle.event_file.proofs.line.number_in.Goals as goal
use Rattle.event_file.proofs.line.number_in.Goals.{else-number-most-via-then-number-most+else-is_decimal, else-number-most-via-else-number-most}

-- the decimal of a number below 2 ^ 32 is read as that number
pub returns-in_default-clause-none : goal.returns-in_default-clause-none
returns-in_default-clause-none c = λ none n low same.
    let read = reads-decimal n c.args.text.now c.parse.result (let most = c.ranges.most.fits in omega arith) same c.parse.ensures.value.0 in
    absurd (let e = sym c.in_default.is ∙ read in cc)

pub returns-else-number-most-clause-none : goal.returns-else-number-most-clause-none
returns-else-number-most-clause-none c = λ none n low same.
    let read = reads-decimal n c.args.text.now c.parse.result (let most = c.ranges.most.fits in omega arith) same c.parse.ensures.value.0 in
    let number : c.in-Ok.number ≡ n = let e = sym c.in-Ok.is ∙ read in cc in
    elim c.else-number-most.branch [
      | else-number-most-via-then-number-most+else-is_decimal w ↦ let written = w.is_decimal.ensures.1 (same ∙ ap decimal (sym number)) in grind arith
      | else-number-most-via-else-number-most w ↦ omega arith
    ]
