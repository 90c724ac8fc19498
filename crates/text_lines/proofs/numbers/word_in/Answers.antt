use Rattle.std.proofs.Common.{sym, ap₂, ◌+◌, ◌*◌, ℕ, Some, ◌∙◌}
use Rattle.text_lines.proofs.PartLaws.{word-none, word-some}
use Rattle.text_lines.proofs.numbers.word_in.Goals as goal

pub returns-in_err-low : goal.returns-in_err-low
returns-in_err-low c = c.from_residual-in_err-low.ensures ∙ sym (word-none c.args.part.now c.if-part-ne4.false (sym c.byte_of-2.ensures ∙ c.in_err-low.was))

pub returns : goal.returns
returns c =
    ap₂ (λ (h l : ℕ). Some (256 * h + l)) c.from.ensures c.from-2.ensures
    ∙ sym (word-some c.args.part.now c.in_ok-high.high c.in_ok-low.low c.if-part-ne4.false (sym c.byte_of.ensures ∙ c.in_ok-high.was) (sym c.byte_of-2.ensures ∙ c.in_ok-low.was))
