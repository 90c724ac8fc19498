use Rattle.std.proofs.Common.{◌≡◌, ◌+◌, ◌<◌, false, true, Bool, cond, length, map, take, Some, sym, ap, ◌∙◌, arith}
use Rattle.std.specs.List.{count_by, slice_get}
use Rattle.long_names.specs.Objects.{is_ref}
use Rattle.object_record.specs.Buffer.{raw_of}
use Rattle.object_record.specs.Objects.{value_in}
use Rattle.object_record.specs.Raw.{longs_of}
use Rattle.std.proofs.lemmas.List.{length-map}
use Rattle.image_reader.proofs.TallyLaws.{raises-then, room-left, few-refs, there-more, value-missing, count_by-more, field-at}
use Rattle.image_reader.proofs.tally.Tally.count_fields.Goals as goal

pub count_long-requires : goal.count_long-requires
count_long-requires c =
    let longs = longs_of (raw_of c.args.buf.now).body in
    let values = map value_in longs in
    let i = c.loop-i.i in
    let many = length-map longs value_in in
    room-left (length longs) i 1 (λ q. count_by (is_ref q) (take i values)) c.args.self.now c.loop-i.self c.requires.room c.loop-i.invariant.more (λ q. few-refs q values i (omega arith)) (omega arith)

pub returns-then-not-count_long-clause-there : goal.returns-then-not-count_long-clause-there
returns-then-not-count_long-clause-there c =
    let longs = longs_of (raw_of c.args.buf.now).body in
    let values = map value_in longs in
    let i = c.loop-i.i in
    let low : i < length longs = omega arith in
    let at : slice_get values i ≡ Some (value_in c.long_field.result) = field-at longs i low ∙ ap (λ n. Some (value_in n)) (sym c.long_field.ensures) in (
      λ e. let no : ◌≡◌ {A = Bool} false true = e in absurd (cc),
      λ all. sym c.if-not-count_long.true ∙ c.count_long.ensures.there.1 (value-missing (λ q. count_by (is_ref q) (take i values)) c.args.self.now c.loop-i.self values i (value_in c.long_field.result) at c.loop-i.invariant.more all),
    )

pub loop-i-preserved : goal.loop-i-preserved
loop-i-preserved c =
    let longs = longs_of (raw_of c.args.buf.now).body in
    let values = map value_in longs in
    let i = c.loop-i.i in
    let v = value_in c.long_field.result in
    let low : i < length longs = omega arith in
    let at : slice_get values i ≡ Some v = field-at longs i low ∙ ap (λ n. Some (value_in n)) (sym c.long_field.ensures) in
    record {
      more = raises-then (λ q. count_by (is_ref q) (take i values)) (λ q. cond (is_ref q v) 1 0) (λ q. count_by (is_ref q) (take (i + 1) values)) c.args.self.now c.loop-i.self c.count_long.new.self c.loop-i.invariant.more c.count_long.ensures.more (λ q. count_by-more q values i v at);
      names = c.count_long.ensures.names ∙ c.loop-i.invariant.names;
      there = there-more (λ q. count_by (is_ref q) (take i values)) c.args.self.now c.loop-i.self values i v at c.loop-i.invariant.more c.loop-i.invariant.there (c.count_long.ensures.there.0 c.if-not-count_long.false);
    }
