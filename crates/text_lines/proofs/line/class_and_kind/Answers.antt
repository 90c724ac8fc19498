use Rattle.std.proofs.Common.{List, ℕ, ◌∷◌, sym, ap, ◌∙◌}
use Rattle.text_lines.proofs.LineLaws.{bad_kind, if_is_none, no_class, no_kind, nothing_behind}
use Rattle.text_lines.proofs.line.class_and_kind.Goals as goal

pub returns-in_err-part-clause-none : goal.returns-in_err-part-clause-none
returns-in_err-part-clause-none c = if_is_none c.from_residual.result (λ _ name. nothing_behind name _ c.in_err-part.ensures.none)

pub returns-in_err-class-clause-none : goal.returns-in_err-class-clause-none
returns-in_err-class-clause-none c = if_is_none c.from_residual-in_err-class.result (λ _ name. no_class name c.in_ok-part.part.now _ _ c.in_ok-part.ensures.some (sym c.in_err-class.ensures))

pub returns-in_err-other-clause-none : goal.returns-in_err-other-clause-none
returns-in_err-other-clause-none c = if_is_none c.from_residual-in_err-other.result (λ _ name. no_kind name c.in_ok-part.part.now _ _ c.in_ok-part.ensures.some c.in_err-other.ensures.none)

pub returns-in_err-kind-clause-none : goal.returns-in_err-kind-clause-none
returns-in_err-kind-clause-none c = if_is_none c.from_residual-in_err-kind.result (λ _ name. bad_kind name c.in_ok-part.part.now c.in_ok-other.other.now _ _ _ c.in_ok-part.ensures.some c.in_ok-other.ensures.some (sym c.in_err-kind.ensures))

pub returns-clause-some : goal.returns-clause-some
returns-clause-some c = (c.in_ok-part.part.now, c.in_ok-other.other.now, c.in_ok-part.ensures.some ∙ ap (λ (ps : List (List ℕ)). c.in_ok-part.part.now ∷ ps) c.in_ok-other.ensures.some, sym c.in_ok-class.ensures, sym c.in_ok-kind.ensures)
