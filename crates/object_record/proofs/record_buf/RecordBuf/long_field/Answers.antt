use Rattle.std.proofs.Common.{ℕ, ◌+◌, ◌*◌, ◌≤◌, List, length, ◌∙◌, ap, sym, subst}
use Rattle.object_record.specs.Buffer.{long_at, word_at, kind_numbered}
use Rattle.object_record.specs.Inside.{longs_place}
use Rattle.object_record.proofs.Calls.{get-long}
use Rattle.object_record.proofs.record_buf.RecordBuf.long_field.Goals as goal

pub long_at-requires : goal.long_at-requires
long_at-requires c =
    let place = c.longs_place.ensures ∙ ap (λ (t : List ℕ). longs_place (kind_numbered (word_at t 16))) (c.deref-2.ensures.value ∙ c.self.view_is) in
    let got = get-long c.args.self.now c.args.i c.longs_place.result c.requires.record c.requires.field place in
    let P : List ℕ → Type 0 = λ t. c.longs_place.result + 4 * c.args.i + 4 ≤ length t in
    subst P (sym (c.deref.ensures.value ∙ c.self.view_is)) got.0

pub returns : goal.returns
returns c =
    let place = c.longs_place.ensures ∙ ap (λ (t : List ℕ). longs_place (kind_numbered (word_at t 16))) (c.deref-2.ensures.value ∙ c.self.view_is) in
    let got = get-long c.args.self.now c.args.i c.longs_place.result c.requires.record c.requires.field place in
    c.long_at.ensures ∙ ap (λ (t : List ℕ). long_at t (c.longs_place.result + 4 * c.args.i)) (c.deref.ensures.value ∙ c.self.view_is) ∙ got.1
