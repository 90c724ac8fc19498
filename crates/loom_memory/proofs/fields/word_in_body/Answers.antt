use Rattle.std.proofs.Common.{◌∙◌, arith}
use Rattle.leaf_lambda.specs.Parts.{core_of}
use Rattle.loom_memory.proofs.FieldLaws.{at-field}
use Rattle.loom_memory.proofs.GentleLaws.{field-word-is, field-word-past}
use Rattle.loom_memory.proofs.fields.word_in_body.Goals as goal

pub field_word-w-requires-clause-there : goal.field_word-w-requires-clause-there
field_word-w-requires-clause-there c = at-field (core_of c.args.p.now) c.args.s.0 c.place_of_body-at.result.place c.args.i c.place_of_body-at.ensures (let all = c.field_total.ensures in let low = c.if-i-field_total.false in omega arith)

pub returns-then-i-field_total-clause-none : goal.returns-then-i-field_total-clause-none
returns-then-i-field_total-clause-none c = λ at w is. absurd (field-word-past (core_of c.args.p.now) c.args.s.0 c.place_of_body-at.result.place at c.args.i w c.place_of_body-at.ensures (let all = c.field_total.ensures in let low = c.if-i-field_total.true in omega arith) is)

pub returns-then-w-eq0-clause-none : goal.returns-then-w-eq0-clause-none
returns-then-w-eq0-clause-none c = λ at w is. field-word-is (core_of c.args.p.now) c.args.s.0 c.place_of_body-at.result.place at c.args.i c.field_word-w.result w c.field_word-w.ensures is ∙ c.if-w-eq0.true

pub returns-clause-word : goal.returns-clause-word
returns-clause-word c = (c.place_of_body-at.result.place, c.field_word-w.ensures, c.if-w-eq0.false)
