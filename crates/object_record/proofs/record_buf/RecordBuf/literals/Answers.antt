use Rattle.std.proofs.Common.{ℕ, List, ◌∙◌, ap, sym}
use Rattle.object_record.specs.Buffer.{word_at, long_at, kind_numbered, raw_of}
use Rattle.object_record.proofs.Texts.{kind-said, literals-said}
use Rattle.object_record.proofs.Calls.{no-literals}
use Rattle.object_record.proofs.record_buf.RecordBuf.literals.Goals as goal

pub returns-in-Method : goal.returns-in-Method
returns-in-Method c =
    let kind = c.kind_of.ensures ∙ ap (λ (t : List ℕ). kind_numbered (word_at t 16)) (c.deref.ensures.value ∙ c.self.view_is) ∙ kind-said c.args.self.now c.requires in
    c.literals_of.ensures.count ∙ ap (λ (t : List ℕ). long_at t 20) (c.deref-in-Method.ensures.value ∙ c.self.view_is) ∙ literals-said c.args.self.now c.requires (sym kind ∙ c.in-Method.is)

pub returns-in_default : goal.returns-in_default
returns-in_default c =
    let kind = c.kind_of.ensures ∙ ap (λ (t : List ℕ). kind_numbered (word_at t 16)) (c.deref.ensures.value ∙ c.self.view_is) ∙ kind-said c.args.self.now c.requires in
    no-literals (raw_of c.args.self.now).body (λ is. c.in_default.not-Method (kind ∙ is))
