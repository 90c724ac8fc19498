use Rattle.std.proofs.Common.{length, option_map, refl, sym, ap, subst, ◌∙◌, arith}
use Rattle.image_format.specs.Rules.{break}
use Rattle.image_reader.specs.Judged.{fields_broken}
use Rattle.image_reader.proofs.Frames.{leaves}
use Rattle.image_text.specs.declared.fault.TextFault.TheVariants.{Disk}
use Rattle.image_text.specs.Assembled.{IsPartTextFault}
use Rattle.image_text.specs.Inside.{IsTextOfWhole}
use Rattle.image_text.specs.Judged.{IsPlaced}
use Rattle.image_text.proofs.JudgeTexts.{fields_placed}
use Rattle.image_text.proofs.judging.judge_fields.Goals as goal

pub bad-requires : goal.bad-requires
bad-requires g c = let same = ap length c.first_unclosed.ensures.names in omega (arith, same, c.requires.few)

pub returns-in-Some-clause-bad : goal.returns-in-Some-clause-bad
returns-in-Some-clause-bad g c = λ recs next told are.
    fields_placed c.args.tally.now.names c.first_unclosed.new.tally.names recs c.in-Some.name c.bad.result c.first_unclosed.ensures.names
    (ap (λ o. option_map (break 10) o) (sym c.in-Some.is) ∙ (c.in_ok-name.ensures.unclosed recs next told are).first) c.bad.ensures

pub returns-in-None-clause-ok : goal.returns-in-None-clause-ok
returns-in-None-clause-ok g c = λ recs next told are.
    let x = c.in_ok-name.ensures.unclosed recs next told are in
    (sym x.first ∙ ap (λ o. option_map (break 10) o) c.in-None.is, x.all c.in-None.is)

pub returns-in_err-name-clause-bad : goal.returns-in_err-name-clause-bad
returns-in_err-name-clause-bad g c = λ recs next told are. leaves (IsPlaced c.args.tally.now.names (fields_broken recs)) c.from_residual.result (Disk c.in_err-name.field-0.0) c.from_residual.ensures.1 tt

pub returns-in_err-name-clause-fault : goal.returns-in_err-name-clause-fault
returns-in_err-name-clause-fault g c =
    leaves (IsPartTextFault g.H.Host c.args.disk.now.host.now c.first_unclosed.new.disk.host.now) c.from_residual.result (Disk c.in_err-name.field-0.0) c.from_residual.ensures.1 c.in_err-name.ensures.fault

pub returns-in_err-name-clause-rule : goal.returns-in_err-name-clause-rule
returns-in_err-name-clause-rule g c = leaves IsTextOfWhole c.from_residual.result (Disk c.in_err-name.field-0.0) c.from_residual.ensures.1 tt

pub returns-in-Some-clause-rule : goal.returns-in-Some-clause-rule
returns-in-Some-clause-rule g c = subst IsTextOfWhole (sym c.bad.ensures) refl
