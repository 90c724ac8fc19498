use Rattle.std.proofs.Common.{◌≡◌, Bool, true, false, cond, eqb, length, sym, ◌∙◌, arith}
use Rattle.object_record.specs.Buffer.{raw_of}
use Rattle.object_record.specs.Raw.{longs_of}
use Rattle.image_reader.proofs.TallyLaws.{longs-few, one-few, raw-class, raw-few, raw-fields, raw-raised, raw-there, room-beside, room-left}
use Rattle.long_names.specs.Objects.{holdings}
use Rattle.object_record.specs.Objects.{object_in}
use Rattle.image_reader.proofs.tally.Tally.count_object.Goals as goal

pub returns-then-not-raise-clause-counts : goal.returns-then-not-raise-clause-counts
returns-then-not-raise-clause-counts c =
    let r = raw_of c.args.buf.now in
    let word = c.get.ensures.value ∙ c.class.ensures in (
      (λ e. let clash : ◌≡◌ {A = Bool} false true = e in absurd (cc), λ is. sym c.if-not-raise.true ∙ c.raise.ensures.there ∙ raw-class r c.get.result c.args.self.now word is),
      λ e. let clash : ◌≡◌ {A = Bool} false true = e in absurd (cc),
    )

pub count_fields-requires : goal.count_fields-requires
count_fields-requires c =
    let r = raw_of c.args.buf.now in
    let few = longs-few r.body c.requires.record.is.size in
    record {
      «record» = c.requires.record;
      room = room-left 65536 1 (length (longs_of r.body)) (λ q. cond (eqb c.get.result q) 1 0) c.args.self.now c.raise.new.self c.requires.room c.raise.ensures.more (λ q. one-few c.get.result q) (omega (arith, few));
    }

pub returns-clause-counts : goal.returns-clause-counts
returns-clause-counts c =
    let r = raw_of c.args.buf.now in
    let word = c.get.ensures.value ∙ c.class.ensures in (
      (
        λ e. raw-there r c.get.result c.args.self.now c.raise.new.self word c.raise.ensures.more (sym c.raise.ensures.there ∙ c.if-not-raise.false) (c.count_fields.ensures.there.0 e),
        λ is. c.count_fields.ensures.there.1 (raw-fields r c.get.result c.args.self.now c.raise.new.self c.raise.ensures.more is),
      ),
      λ e. raw-raised r c.get.result c.args.self.now c.raise.new.self c.count_fields.new.self word c.raise.ensures.more (c.count_fields.ensures.more e),
    )

pub returns-clause-room : goal.returns-clause-room
returns-clause-room c = λ words room e.
    let r = raw_of c.args.buf.now in
    let word = c.get.ensures.value ∙ c.class.ensures in
    room-beside (holdings (object_in r)) 65536 words c.args.self.now c.count_fields.new.self (raw-raised r c.get.result c.args.self.now c.raise.new.self c.count_fields.new.self word c.raise.ensures.more (c.count_fields.ensures.more e))
    (λ q. raw-few r q c.requires.record.is.size) room
