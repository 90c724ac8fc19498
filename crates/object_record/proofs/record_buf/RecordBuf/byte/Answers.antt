use Rattle.std.proofs.Common.{ℕ, ◌+◌, List, length, ◌∙◌, ap, arith}
use Rattle.std.specs.Prelude.{slice_index}
use Rattle.std.proofs.lemmas.List.{get_or_default}
use Rattle.object_record.specs.Buffer.{word_at, long_at, kind_numbered}
use Rattle.object_record.specs.Inside.{bytes_place}
use Rattle.object_record.proofs.Calls.{get-byte}
use Rattle.object_record.proofs.record_buf.RecordBuf.byte.Goals as goal

pub index-requires : goal.index-requires
index-requires c =
    let place = c.bytes_place.ensures.place ∙ ap (λ (t : List ℕ). bytes_place (kind_numbered (word_at t 16)) (long_at t 20)) (c.deref.ensures.value ∙ c.self.view_is) in
    let got = get-byte c.args.self.now c.args.i c.bytes_place.result c.requires.record c.requires.byte place in
    omega (arith, got.0, ap length c.self.view_is, c.self.inside.bytes.ok.0)

pub returns : goal.returns
returns c =
    let place = c.bytes_place.ensures.place ∙ ap (λ (t : List ℕ). bytes_place (kind_numbered (word_at t 16)) (long_at t 20)) (c.deref.ensures.value ∙ c.self.view_is) in
    let got = get-byte c.args.self.now c.args.i c.bytes_place.result c.requires.record c.requires.byte place in
    c.index.ensures ∙ get_or_default c.self.inside.bytes.items (c.bytes_place.result + c.args.i) c.index.result.now 0 (omega (arith, got.0, ap length c.self.view_is)) ∙ ap (λ (t : List ℕ). slice_index t (c.bytes_place.result + c.args.i)) c.self.view_is ∙ got.1
