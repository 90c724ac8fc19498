use Rattle.std.proofs.Common.{◌≡◌, Bool, true, false, sym}
use Rattle.st80_objects.specs.Images.{objects_of}
use Rattle.st80_show.proofs.SameLaws.{from_both, to_each, true_unless}
use Rattle.st80_show.proofs.same.is_same_image.Goals as goal

pub returns-then-not-has_same : goal.returns-then-not-has_same
returns-then-not-has_same c = (
  λ t. let clash : ◌≡◌ {A = Bool} false true = t in absurd (cc),
  λ same. absurd (c.has_same.ensures.other c.if-not-has_same.true (to_each (objects_of c.args.a.now) (objects_of c.args.b.now) c.has_same.ensures.rising same.objects)),
)

pub returns : goal.returns
returns c = (
  λ t. record {
    head = c.is_same_head.ensures.0 c.if-not-is_same_head.false;
    objects = from_both (objects_of c.args.a.now) (objects_of c.args.b.now) (c.has_same.ensures.same c.if-not-has_same.false) (c.has_same-2.ensures.same t);
  },
  λ same. true_unless c.has_same-2.result (λ no. c.has_same-2.ensures.other no (to_each (objects_of c.args.b.now) (objects_of c.args.a.now) c.has_same-2.ensures.rising (λ n. sym (same.objects n)))),
)
