use Rattle.std.proofs.Common.{ℕ, ◌+◌, ◌*◌, List, ◌∙◌, ap}
use Rattle.object_record.specs.Buffer.{word_at}
use Rattle.object_record.proofs.Calls.{get-word}
use Rattle.object_record.proofs.record_buf.RecordBuf.word.Goals as goal

pub returns : goal.returns
returns c =
    c.word_at.ensures ∙ ap (λ (t : List ℕ). word_at t (20 + 2 * c.args.i)) (c.deref.ensures.value ∙ c.self.view_is) ∙ (get-word c.args.self.now c.args.i c.requires.record c.requires.word).1
