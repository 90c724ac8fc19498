use Rattle.std.proofs.Common.{sym, ◌∙◌}
use Rattle.text_lines.proofs.PartLaws.{small-before, small-other}
use Rattle.text_lines.proofs.numbers.small_in.Goals as goal

pub returns-then-last-eq105 : goal.returns-then-last-eq105
returns-then-last-eq105 c = c.signed_in.ensures ∙ sym (small-before c.args.part.now c.in_ok-last.front.now c.in_ok-last.last.now c.in_ok-last.ensures.cases.0 c.if-last-eq105.true)

pub returns-else-last-eq105 : goal.returns-else-last-eq105
returns-else-last-eq105 c = sym (small-other c.args.part.now c.in_ok-last.front.now c.in_ok-last.last.now c.in_ok-last.ensures.cases.0 c.if-last-eq105.false)
