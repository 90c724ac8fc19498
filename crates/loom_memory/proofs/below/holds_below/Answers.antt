use Rattle.std.proofs.Common.{◌≡◌, ◌<◌, Bool, false, true, refl, sym, ◌∙◌, subst, arith, length}
use Rattle.long_names.proofs.ThinLemmas.{holds-class}
use Rattle.object_record.specs.Buffer.{raw_of}
use Rattle.object_record.specs.Raw.{longs_of}
use Rattle.object_record.specs.Objects.{value_in, object_in}
use Rattle.loom_memory.specs.Below.{IsBelow}
use Rattle.loom_memory.proofs.BelowLaws.{field-below, object-below}
use Rattle.loom_memory.proofs.below.holds_below.Goals as goal

pub returns-then-get-next : goal.returns-then-get-next
returns-then-get-next c = (
  λ e. let no_ : ◌≡◌ {A = Bool} false true = e in absurd (cc),
  λ all.
      let low : (raw_of c.args.buf.now).class < c.args.next = all (raw_of c.args.buf.now).class (holds-class (object_in (raw_of c.args.buf.now))) in
      let is = c.class.ensures in
      let same = c.get.ensures.value in
      let past = c.if-get-next.true in
      absurd (omega (arith, low, is, same, past)),
)

pub returns-then-not-is_below : goal.returns-then-not-is_below
returns-then-not-is_below c = (
  λ e. let no_ : ◌≡◌ {A = Bool} false true = e in absurd (cc),
  λ all.
      let raw = raw_of c.args.buf.now in
      let i = c.loop-i.i in
      let many = c.field_count-i-end.ensures in
      let test = c.loop-i-test.true in
      let low : i < length (longs_of raw.body) = omega (arith, many, test) in
      sym c.if-not-is_below.true ∙ c.is_below.ensures.1 (subst (λ n. IsBelow c.args.next (value_in n)) (sym c.long_field.ensures) (field-below raw c.args.next i low all)),
)

pub returns : goal.returns
returns c = (
  λ e.
      let raw = raw_of c.args.buf.now in
      let many = c.field_count-i-end.ensures in
      let end = c.loop-i-test.false in
      let is = c.class.ensures in
      let same = c.get.ensures.value in
      let past = c.if-get-next.false in
      object-below raw c.args.next (omega (arith, is, same, past)) (λ j low. c.loop-i.invariant.below j (omega (arith, low, many, end))),
  λ all. refl,
)
