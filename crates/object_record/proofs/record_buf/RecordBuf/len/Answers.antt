use Rattle.std.proofs.Common.{ℕ, List, ◌∙◌, ap}
use Rattle.object_record.specs.Buffer.{word_at}
use Rattle.object_record.proofs.Texts.{size-said}
use Rattle.object_record.proofs.record_buf.RecordBuf.len.Goals as goal

pub returns : goal.returns
returns c =
    c.size_of.ensures.size ∙ ap (λ (t : List ℕ). word_at t 18) (c.deref.ensures.value ∙ c.self.view_is) ∙ size-said c.args.self.now c.requires
