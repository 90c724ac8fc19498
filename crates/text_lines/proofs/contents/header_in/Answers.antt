use Rattle.std.proofs.Common.{sym, ◌∙◌}
use Rattle.text_lines.proofs.LineLaws.{empty_method, if_is_none, no_header}
use Rattle.text_lines.proofs.contents.header_in.Goals as goal

pub returns-in_err-part-clause-none : goal.returns-in_err-part-clause-none
returns-in_err-part-clause-none c = if_is_none c.from_residual.result (λ _. empty_method _ c.in_err-part.ensures.none)

pub returns-clause-none : goal.returns-clause-none
returns-clause-none c = if_is_none c.small_in.result (λ e. no_header _ _ c.in_ok-part.part.now c.in_ok-part.ensures.some (sym c.small_in.ensures ∙ e))
