use Rattle.std.proofs.Common.{ℕ, List, ◌∙◌, ap}
use Rattle.object_record.specs.Buffer.{long_at}
use Rattle.object_record.proofs.Calls.{get-header}
use Rattle.object_record.proofs.record_buf.RecordBuf.header.Goals as goal

pub returns : goal.returns
returns c =
    c.long_at.ensures ∙ ap (λ (t : List ℕ). long_at t 24) (c.deref.ensures.value ∙ c.self.view_is) ∙ get-header c.args.self.now c.requires.record c.requires.method
