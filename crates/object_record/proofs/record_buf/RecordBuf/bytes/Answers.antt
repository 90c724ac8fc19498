use Rattle.std.proofs.Common.{ℕ, ◌+◌, ◌≤◌, List, take, length, ◌∙◌, ap, sym, subst}
use Rattle.std.proofs.lemmas.List.{length-take-le}
use Rattle.object_record.specs.Buffer.{word_at, long_at, kind_numbered}
use Rattle.object_record.specs.Inside.{size_stated}
use Rattle.object_record.proofs.Calls.{text-front}
use Rattle.object_record.proofs.record_buf.RecordBuf.bytes.Goals as goal

pub slice_bounds-result-end : goal.slice_bounds-result-end
slice_bounds-result-end c =
    let end = c.end_of-end.ensures.end ∙ ap (λ (t : List ℕ). 20 + size_stated (kind_numbered (word_at t 16)) (word_at t 18) (long_at t 20)) (c.deref.ensures.value ∙ c.self.view_is) in
    let front = text-front c.args.self.now c.end_of-end.result c.padding_of.result c.requires end c.padding_of.ensures in
    let P : List ℕ → Type 0 = λ t. c.end_of-end.result + c.padding_of.result ≤ length t in
    sym (length-take-le (c.end_of-end.result + c.padding_of.result) c.deref-2.result.now (subst P (sym (c.deref-2.ensures.value ∙ c.self.view_is)) front.1))

pub returns : goal.returns
returns c =
    let end = c.end_of-end.ensures.end ∙ ap (λ (t : List ℕ). 20 + size_stated (kind_numbered (word_at t 16)) (word_at t 18) (long_at t 20)) (c.deref.ensures.value ∙ c.self.view_is) in
    let front = text-front c.args.self.now c.end_of-end.result c.padding_of.result c.requires end c.padding_of.ensures in
    ap (take (c.end_of-end.result + c.padding_of.result)) (c.deref-2.ensures.value ∙ c.self.view_is) ∙ front.0
