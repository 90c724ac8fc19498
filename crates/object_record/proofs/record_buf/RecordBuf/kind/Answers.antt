use Rattle.std.proofs.Common.{ℕ, List, ◌∙◌, ap}
use Rattle.object_record.specs.Buffer.{word_at, kind_numbered}
use Rattle.object_record.proofs.Texts.{kind-said}
use Rattle.object_record.proofs.record_buf.RecordBuf.kind.Goals as goal

pub returns : goal.returns
returns c =
    c.kind_of.ensures ∙ ap (λ (t : List ℕ). kind_numbered (word_at t 16)) (c.deref.ensures.value ∙ c.self.view_is) ∙ kind-said c.args.self.now c.requires
