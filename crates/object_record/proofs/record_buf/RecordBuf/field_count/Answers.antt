use Rattle.std.proofs.Common.{sym, ◌∙◌}
use Rattle.object_record.specs.Buffer.{raw_of}
use Rattle.object_record.proofs.Calls.{values-many, literals-many, none-many}
use Rattle.object_record.proofs.record_buf.RecordBuf.field_count.Goals as goal

pub returns-in-Pointers : goal.returns-in-Pointers
returns-in-Pointers c = c.len.ensures ∙ values-many (raw_of c.args.self.now).body (sym c.in-Pointers.ensures)

pub returns-in-Method : goal.returns-in-Method
returns-in-Method c = c.literals.ensures ∙ literals-many (raw_of c.args.self.now).body (sym c.in-Method.ensures)

pub returns-in_default : goal.returns-in_default
returns-in_default c = none-many (raw_of c.args.self.now).body (λ is. c.in_default.not-Pointers (c.kind.ensures ∙ is)) (λ is. c.in_default.not-Method (c.kind.ensures ∙ is))
