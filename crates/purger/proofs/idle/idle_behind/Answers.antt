use Rattle.std.proofs.Common.{◌≡◌, true, get_or, subst, sym, arith}
use Rattle.std.proofs.lemmas.Option.{slice_get-get_or}
use Rattle.object_table.specs.declared.entry.Entry.{Entry}
use Rattle.object_table.specs.Entries.{is_used}
use Rattle.core_view.specs.Words.{pointers}
use Rattle.core_view.proofs.Core.{class-used, placed-used, used-live, word-used}
use Rattle.leaf_lambda.specs.Parts.{core_of}
use Rattle.purger.proofs.idle.idle_behind.Goals as goal

pub used_entry-requires : goal.used_entry-requires
unfolding core_of
used_entry-requires c = placed-used ((core_of c.args.p.now).entries c.args.s.0).state c.requires.body.0 c.requires.body.1

pub is_last-requires-clause-used : goal.is_last-requires-clause-used
unfolding core_of
is_last-requires-clause-used c = λ is. subst (λ (e : Entry). is_used ((core_of c.args.p.now).entries e.class.0).state ≡ true) (sym c.used_entry.ensures)
    (used-live (core_of c.args.p.now) c.requires.parts.core ((core_of c.args.p.now).entries c.args.s.0).class.0 (class-used (core_of c.args.p.now) c.requires.parts.core c.args.s.0 c.requires.body.0 c.requires.body.1))

pub field_word-w-requires-clause-there : goal.field_word-w-requires-clause-there
field_word-w-requires-clause-there c =
    let ws = pointers ((core_of c.args.p.now).entries c.args.s.0).kind ((core_of c.args.p.now).chunks c.place_of_body-at.result.place).words in
    (get_or ws c.loop-i.i 0, record { place = c.place_of_body-at.ensures; word = slice_get-get_or ws c.loop-i.i 0 (let low = c.loop-i-test.true in let all = c.field_total-i-end.ensures in omega arith) })

pub is_last-requires-in-loop-i-clause-used : goal.is_last-requires-in-loop-i-clause-used
is_last-requires-in-loop-i-clause-used c = λ is. used-live (core_of c.args.p.now) c.requires.parts.core c.field_word-w.result
    (word-used (core_of c.args.p.now) c.requires.parts.core c.args.s.0 c.place_of_body-at.result.place c.loop-i.i c.field_word-w.result c.field_word-w.ensures.place c.field_word-w.ensures.word is)
