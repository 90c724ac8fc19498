use Rattle.std.proofs.Common.{◌≡◌, ℕ, ◌+◌, ◌*◌, List, length, ◌∙◌, ap, sym, subst, arith}
use Rattle.long_names.specs.Objects.{put_run}
use Rattle.long_names.specs.Record.{four_bytes}
use Rattle.object_record.specs.Buffer.{word_at, kind_numbered, raw_of, HasRecord}
use Rattle.object_record.specs.Raw.{with_long}
use Rattle.object_record.specs.Inside.{longs_place}
use Rattle.object_record.proofs.Calls.{get-long, set-long}
use Rattle.object_record.proofs.record_buf.RecordBuf.set_long_field.Goals as goal

pub put-requires : goal.put-requires
put-requires c =
    let place = c.longs_place.ensures ∙ ap (λ (t : List ℕ). longs_place (kind_numbered (word_at t 16))) (c.deref.ensures.value ∙ c.self.view_is) in
    let got = get-long c.args.self.now c.args.i c.longs_place.result c.requires.record c.requires.field place in
    let four : length c.to_be_bytes.result ≡ 4 = ap length c.to_be_bytes.ensures in
    omega (arith, got.0, four, ap length c.self.view_is)

abbrev Done : goal.After-put → Type 0
Done c = HasRecord c.put.new.bytes.items × (raw_of c.put.new.bytes.items ≡ with_long (raw_of c.args.self.now) c.args.i c.args.word)

done : (c : goal.After-put) → Done c
unfolding four_bytes
done c =
    let at : ℕ = c.longs_place.result + 4 * c.args.i in
    let place = c.longs_place.ensures ∙ ap (λ (t : List ℕ). longs_place (kind_numbered (word_at t 16))) (c.deref.ensures.value ∙ c.self.view_is) in
    let set = set-long c.args.self.now c.args.i c.longs_place.result c.args.word c.requires.record c.requires.field place c.ranges.word.fits in
    let same : c.put.new.bytes.items ≡ put_run c.args.self.now at (four_bytes c.args.word) = c.put.ensures.bytes ∙ ap (λ (t : List ℕ). put_run t at c.to_be_bytes.result) c.self.view_is ∙ ap (λ (t : List ℕ). put_run c.args.self.now at t) c.to_be_bytes.ensures in
    (subst HasRecord (sym same) set.0, ap raw_of same ∙ set.1)

pub returns-clause-record : goal.returns-clause-record
returns-clause-record c = (done c).0

pub returns-clause-set : goal.returns-clause-set
returns-clause-set c = (done c).1
