use Rattle.std.proofs.Common.{◌≡◌, ◌+◌, ◌<◌, ◌≤◌, true, None, Some, Result, Ok, refl, sym, ap, subst, ◌∙◌}
use Rattle.std.specs.Prelude.{IfErr}
use Rattle.long_names.specs.Objects.{IsBody}
use Rattle.long_names.specs.declared.object.Rec.{Rec}
use Rattle.image_format.specs.declared.fault.Break.{Break}
use Rattle.image_format.specs.declared.head.TheConstants.{MOST_OBJECTS}
use Rattle.text_lines.specs.Breaks.{keeps_size, object_at}
use Rattle.image_text.specs.Lines.{IsBreak, object_kept}
use Rattle.image_text.proofs.BodyLaws.{line_body, line_count}
use Rattle.image_text.proofs.StatedLaws.{both_ok, is_object, more_ok, no_object, object_is}
use Rattle.image_text.proofs.reading.judge_object.Goals as goal

pub returns-in-Some-clause-read : goal.returns-in-Some-clause-read
returns-in-Some-clause-read c =
    let line = c.args.line.now in
    let o = is_object line (Some c.in-Some.stated) c.in-Some.stated (sym c.in-Some.is ∙ c.in_ok-stated.ensures) refl in
    more_ok (λ (x : Rec). (x ≡ o.0) × (object_kept c.args.number c.args.last c.args.next o.0 ≡ Ok x)) (λ (x : Rec). object_at c.args.number c.args.last c.args.next line ≡ Ok x) c.judge_stated.result
    (λ x p. object_is c.args.number c.args.last c.args.next line o.0 o.1 ∙ p.1)
    (c.judge_stated.ensures.read o.0 o.2 (line_count line o.0 o.1))

pub returns-in-Some-clause-kept : goal.returns-in-Some-clause-kept
returns-in-Some-clause-kept c =
    let line = c.args.line.now in
    let o = is_object line (Some c.in-Some.stated) c.in-Some.stated (sym c.in-Some.is ∙ c.in_ok-stated.ensures) refl in
    both_ok (λ (x : Rec). (x ≡ o.0) × (object_kept c.args.number c.args.last c.args.next o.0 ≡ Ok x))
    (λ (x : Rec). (c.args.number ≤ MOST_OBJECTS + 1) × (c.args.last < x.name) × (x.name < c.args.next) × (x.count ≡ 0) × (keeps_size x.body ≡ true))
    (λ (x : Rec). (c.args.number ≤ MOST_OBJECTS + 1) × (c.args.last < x.name) × (x.name < c.args.next) × (x.count ≡ 0) × IsBody x.body) c.judge_stated.result
    (λ x p k. (k.0, k.1, k.2, k.3, subst (λ (r : Rec). IsBody r.body) (sym p.0) (line_body line o.0 o.1 (ap (λ (r : Rec). keeps_size r.body) (sym p.0) ∙ k.4))))
    (c.judge_stated.ensures.read o.0 o.2 (line_count line o.0 o.1)) c.judge_stated.ensures.kept

pub returns-in-Some-clause-bad : goal.returns-in-Some-clause-bad
returns-in-Some-clause-bad c =
    let line = c.args.line.now in
    let o = is_object line (Some c.in-Some.stated) c.in-Some.stated (sym c.in-Some.is ∙ c.in_ok-stated.ensures) refl in
    subst (λ (read : Result Rec Break). IfErr c.judge_stated.result (IsBreak read)) (sym (object_is c.args.number c.args.last c.args.next line o.0 o.1)) (c.judge_stated.ensures.bad o.0 o.2)

pub returns-in-None-clause-bad : goal.returns-in-None-clause-bad
returns-in-None-clause-bad c = no_object c.args.number c.args.last c.args.next c.args.line.now None (sym c.in-None.is ∙ c.in_ok-stated.ensures) refl
