use Rattle.std.proofs.Common.{◌≡◌, ℕ, ◌+◌, List, [], ◌∷◌, length, ◌∙◌, ap, sym, subst, arith}
use Rattle.long_names.specs.Objects.{put_run}
use Rattle.object_record.specs.Buffer.{word_at, long_at, kind_numbered, raw_of, HasRecord}
use Rattle.object_record.specs.Raw.{with_byte}
use Rattle.object_record.specs.Inside.{bytes_place}
use Rattle.object_record.proofs.Calls.{get-byte, set-byte}
use Rattle.object_record.proofs.record_buf.RecordBuf.set_byte.Goals as goal

pub put-requires : goal.put-requires
put-requires c =
    let place = c.bytes_place.ensures.place ∙ ap (λ (t : List ℕ). bytes_place (kind_numbered (word_at t 16)) (long_at t 20)) (c.deref.ensures.value ∙ c.self.view_is) in
    let got = get-byte c.args.self.now c.args.i c.bytes_place.result c.requires.record c.requires.byte place in
    omega (arith, got.0, ap length c.self.view_is)

abbrev Done : goal.After-put → Type 0
Done c = HasRecord c.put.new.bytes.items × (raw_of c.put.new.bytes.items ≡ with_byte (raw_of c.args.self.now) c.args.i c.args.byte)

done : (c : goal.After-put) → Done c
done c =
    let at : ℕ = c.bytes_place.result + c.args.i in
    let place = c.bytes_place.ensures.place ∙ ap (λ (t : List ℕ). bytes_place (kind_numbered (word_at t 16)) (long_at t 20)) (c.deref.ensures.value ∙ c.self.view_is) in
    let set = set-byte c.args.self.now c.args.i c.bytes_place.result c.args.byte c.requires.record c.requires.byte place c.ranges.byte.fits in
    let same : c.put.new.bytes.items ≡ put_run c.args.self.now at (c.args.byte ∷ []) = c.put.ensures.bytes ∙ ap (λ (t : List ℕ). put_run t at (c.args.byte ∷ [])) c.self.view_is in
    (subst HasRecord (sym same) set.0, ap raw_of same ∙ set.1)

pub returns-clause-record : goal.returns-clause-record
returns-clause-record c = (done c).0

pub returns-clause-set : goal.returns-clause-set
returns-clause-set c = (done c).1
