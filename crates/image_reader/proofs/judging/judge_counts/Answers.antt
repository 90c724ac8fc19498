use Rattle.std.proofs.Common.{ℕ, Option, Some, option_map, refl, sym, ap, subst, ◌∙◌}
use Rattle.image_format.specs.declared.fault.Break.{Break}
use Rattle.image_format.specs.Rules.{break}
use Rattle.image_reader.specs.Judged.{IsJudged, IsOfWhole, counts_broken}
use Rattle.image_reader.proofs.judging.judge_counts.Goals as goal

pub returns-in-Some-clause-bad : goal.returns-in-Some-clause-bad
returns-in-Some-clause-bad c = λ recs next old are fresh raised.
    subst (IsJudged (counts_broken recs)) (sym c.bad.ensures) (sym (c.first_miscounted.ensures.miscounted recs next old are fresh raised) ∙ ap (λ o. option_map (break 11) o) c.in-Some.is ∙ ap (λ (n : ℕ). let b : Option Break = Some (break 11 n) in b) (sym c.get.ensures.value))

pub returns-in-None-clause-ok : goal.returns-in-None-clause-ok
returns-in-None-clause-ok c = λ recs next old are fresh raised. sym (c.first_miscounted.ensures.miscounted recs next old are fresh raised) ∙ ap (λ o. option_map (break 11) o) c.in-None.is

pub returns-in-Some-clause-rule : goal.returns-in-Some-clause-rule
returns-in-Some-clause-rule c = subst IsOfWhole (sym c.bad.ensures) refl
