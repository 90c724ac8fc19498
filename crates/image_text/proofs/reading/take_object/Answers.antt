use Rattle.std.proofs.Common.{refl}
use Rattle.image_text.proofs.reading.take_object.Goals as goal

pub returns-clause-object : goal.returns-clause-object
returns-clause-object c =
    let kept = c.in_ok-rec.ensures.kept in
    record {
      rec = c.in_ok-rec.rec;
      is = c.in_ok-fill_record.ensures.record;
      named = refl;
      above = kept.1;
      below = kept.2;
      uncounted = kept.3;
      few = kept.0;
      read = c.in_ok-rec.ensures.read;
      has_record = c.in_ok-fill_record.ensures.buffer.0;
      raw_is = c.in_ok-fill_record.ensures.buffer.1;
    }
