use Rattle.std.proofs.Common.{get_or, arith}
use Rattle.std.proofs.lemmas.Option.{slice_get-get_or}
use Rattle.core_view.specs.Words.{pointers}
use Rattle.core_view.proofs.Core.{used-live, word-used}
use Rattle.leaf_lambda.specs.Parts.{core_of}
use Rattle.purger.proofs.alone.copy_fields.Goals as goal

pub field_word-w-requires-clause-there : goal.field_word-w-requires-clause-there
field_word-w-requires-clause-there c =
    let ws = pointers ((core_of c.args.p.now).entries c.args.s.0).kind ((core_of c.args.p.now).chunks c.args.at.place).words in
    (get_or ws c.loop-i.i 0, record { place = c.requires.place; word = slice_get-get_or ws c.loop-i.i 0 (let low = c.loop-i-test.true in let all = c.field_total-count.ensures in omega arith) })

pub stays_named-requires-clause-used : goal.stays_named-requires-clause-used
stays_named-requires-clause-used c = λ is. used-live (core_of c.args.p.now) c.requires.parts.core c.field_word-w.result
    (word-used (core_of c.args.p.now) c.requires.parts.core c.args.s.0 c.args.at.place c.loop-i.i c.field_word-w.result c.requires.place c.field_word-w.ensures.word is)
