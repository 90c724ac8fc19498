use Rattle.std.proofs.Common.{ℕ, Option, Some, option_map, refl, sym, ap, subst, ◌∙◌}
use Rattle.image_format.specs.declared.fault.Break.{Break}
use Rattle.image_format.specs.Rules.{break}
use Rattle.image_reader.specs.declared.fault.LoadFault.TheVariants.{Disk}
use Rattle.image_reader.specs.Frames.{IsPartFault}
use Rattle.image_reader.proofs.Frames.{leaves}
use Rattle.image_reader.specs.Judged.{IsJudged, IsOfWhole, fields_broken}
use Rattle.image_reader.proofs.judging.judge_fields.Goals as goal

pub returns-in-Some-clause-bad : goal.returns-in-Some-clause-bad
returns-in-Some-clause-bad g c = λ recs next told are.
    subst (IsJudged (fields_broken recs)) (sym c.bad.ensures) (sym (c.in_ok-name.ensures.unclosed recs next told are).first ∙ ap (λ o. option_map (break 10) o) c.in-Some.is ∙ ap (λ (n : ℕ). let b : Option Break = Some (break 10 n) in b) (sym c.get.ensures.value))

pub returns-in-None-clause-ok : goal.returns-in-None-clause-ok
returns-in-None-clause-ok g c = λ recs next told are.
    let x = c.in_ok-name.ensures.unclosed recs next told are in
    (sym x.first ∙ ap (λ o. option_map (break 10) o) c.in-None.is, x.all c.in-None.is)

pub returns-in_err-name-clause-bad : goal.returns-in_err-name-clause-bad
returns-in_err-name-clause-bad g c = λ recs next told are. leaves (IsJudged (fields_broken recs)) c.from_residual.result (Disk c.in_err-name.field-0.0) c.from_residual.ensures.1 tt

pub returns-in_err-name-clause-fault : goal.returns-in_err-name-clause-fault
returns-in_err-name-clause-fault g c =
    leaves (IsPartFault g.H.Host c.args.disk.now.host.now c.first_unclosed.new.disk.host.now) c.from_residual.result (Disk c.in_err-name.field-0.0) c.from_residual.ensures.1 c.in_err-name.ensures.fault

pub returns-in_err-name-clause-rule : goal.returns-in_err-name-clause-rule
returns-in_err-name-clause-rule g c = leaves IsOfWhole c.from_residual.result (Disk c.in_err-name.field-0.0) c.from_residual.ensures.1 tt

pub returns-in-Some-clause-rule : goal.returns-in-Some-clause-rule
returns-in-Some-clause-rule g c = subst IsOfWhole (sym c.bad.ensures) refl
