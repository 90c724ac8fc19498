use Rattle.std.proofs.Common.{ℕ, sym, subst, ◌∙◌, ◌≤◌, length}
use Rattle.text_lines.proofs.PartLaws.{first-or-end, within-line}
use Rattle.text_lines.proofs.parts.first_space.Goals as goal

pub returns-clause-at : goal.returns-clause-at
returns-clause-at c = c.unwrap_or.ensures ∙ rw c.space_in.ensures (first-or-end c.args.line.now)

pub returns-clause-within : goal.returns-clause-within
returns-clause-within c = subst (λ (n : ℕ). n ≤ length c.args.line.now) (sym (c.unwrap_or.ensures ∙ rw c.space_in.ensures (first-or-end c.args.line.now))) (within-line c.args.line.now)
