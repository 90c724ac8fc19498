use Rattle.std.proofs.Common.{◌≡◌, ℕ, ◌<◌, Bool, true, false, Some, slice_get, length, sym, subst, ap, ◌∙◌, arith}
use Rattle.long_names.specs.declared.object.Rec.{Rec}
use Rattle.image_format.specs.Rules.{object_in, object_of_rec}
use Rattle.st80_objects.specs.Images.{objects_of}
use Rattle.st80_show.proofs.SameLaws.{at_place, in_range, none_same, not_same, one_same, step}
use Rattle.st80_show.proofs.same.has_same.Goals as goal

pub returns-then-not-is_same_object-clause-other : goal.returns-then-not-is_same_object-clause-other
returns-then-not-is_same_object-clause-other c = λ none has.
    let at = ap (λ l. slice_get l c.loop-rec.rec-index) (sym c.all-rec-items.ensures.all) ∙ at_place c.all-rec-items.result.now c.loop-rec.rec-index c.rec-item.result c.loop-rec-test.true c.rec-item.is in
    not_same (objects_of c.args.image.now) (objects_of c.args.other.now) c.loop-rec.rec-index c.rec-item.result c.in-Some.found.now at c.in-Some.ensures (λ same. let yes = c.is_same_object.ensures.1 same in let no = c.if-not-is_same_object.true in absurd (cc)) has

pub returns-in-None-clause-other : goal.returns-in-None-clause-other
returns-in-None-clause-other c = λ none has.
    let at = ap (λ l. slice_get l c.loop-rec.rec-index) (sym c.all-rec-items.ensures.all) ∙ at_place c.all-rec-items.result.now c.loop-rec.rec-index c.rec-item.result c.loop-rec-test.true c.rec-item.is in
    none_same (objects_of c.args.image.now) (objects_of c.args.other.now) c.loop-rec.rec-index c.rec-item.result at c.in-None.ensures has

pub loop-rec-preserved : goal.loop-rec-preserved
loop-rec-preserved c =
    let at = ap (λ l. slice_get l c.loop-rec.rec-index) (sym c.all-rec-items.ensures.all) ∙ at_place c.all-rec-items.result.now c.loop-rec.rec-index c.rec-item.result c.loop-rec-test.true c.rec-item.is in
    let here = one_same (objects_of c.args.other.now) c.rec-item.result c.in-Some.found.now c.in-Some.ensures (c.is_same_object.ensures.0 c.if-not-is_same_object.false) in
    step (λ (r : Rec). object_in (objects_of c.args.other.now) r.name ≡ Some (object_of_rec r)) (objects_of c.args.image.now) c.loop-rec.rec-index c.rec-item.result at c.loop-rec.invariant here

pub returns-clause-same : goal.returns-clause-same
returns-clause-same c = λ t i r e.
    let within = in_range (objects_of c.args.image.now) i r e in
    let end = c.loop-rec-test.false in
    c.loop-rec.invariant i r (omega (arith, within, end, ap length c.all-rec-items.ensures.all)) e
