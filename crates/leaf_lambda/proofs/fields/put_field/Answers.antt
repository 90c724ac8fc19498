use Rattle.std.proofs.Common.{ℕ, [], subst, sym, ◌∙◌, ap, arith}
use Rattle.core_segment.specs.declared.segment.Segment.{Segment}
use Rattle.core_segment.specs.Segment.{SameRoom}
use Rattle.core_view.specs.Core.{Core}
use Rattle.core_view.specs.Words.{meant}
use Rattle.core_view.specs.Held.{held, object_at}
use Rattle.core_view.proofs.Core.{placed-used}
use Rattle.core_view.proofs.Steps.{outside-used}
use Rattle.core_view.specs.Steps.{IsAt}
use Rattle.leaf_lambda.specs.Parts.{core_of}
use Rattle.leaf_lambda.proofs.ValuedLaws.{field-valued}
use Rattle.leaf_lambda.proofs.FieldLaws.{held-there, IsPut, at-mark, put-loose, put-within, put-backed, put-held, put-entry}
use Rattle.leaf_lambda.proofs.TranslateLaws.{at-later}
use Rattle.object_table.specs.Table.{free_of}
use Rattle.resident_table.specs.declared.Parts2.{Parts2}
use Rattle.leaf_lambda.proofs.fields.put_field.Goals as goal

pub mark_changed-requires-clause-used : goal.mark_changed-requires-clause-used
mark_changed-requires-clause-used c = placed-used ((core_of c.args.p.now).entries c.args.s.0).state c.args.at.place c.requires.there.1.place

pub field_word-old-requires-clause-there : goal.field_word-old-requires-clause-there
field_word-old-requires-clause-there c = (c.requires.there.0, at-mark (core_of c.args.p.now) (core_of c.mark_changed.new.p) c.args.s.0 c.args.at.place c.args.i c.requires.there.0 c.mark_changed.ensures.core c.requires.there.1)

pub hold_word-requires-clause-used : goal.hold_word-requires-clause-used
hold_word-requires-clause-used c = λ is. let same = c.mark_changed.ensures.outside c.args.w in let some = c.requires.held is in outside-used (core_of c.mark_changed.new.p) c.args.w c.mark_changed.ensures.parts.core (omega arith)

pub hold_word-requires-clause-light : goal.hold_word-requires-clause-light
hold_word-requires-clause-light c = let same = c.mark_changed.ensures.outside c.args.w in let some = c.requires.light c.args.w in omega arith

pub store_word-requires-clause-there : goal.store_word-requires-clause-there
store_word-requires-clause-there c = (c.field_word-old.result, at-later (core_of c.mark_changed.new.p) (core_of c.hold_word.new.p) c.args.s.0 c.args.at.place c.args.i c.field_word-old.result c.hold_word.ensures.held.step c.field_word-old.ensures)

pub store_word-requires-clause-held : goal.store_word-requires-clause-held
store_word-requires-clause-held c = λ is. let same = c.mark_changed.ensures.outside c.args.w in let some = c.requires.held is in let more = c.hold_word.ensures.held.one_more c.args.w in omega arith

at-old : (a m : Core) (s p i was old : ℕ) → IsAt a s p i was → IsAt m s p i old → IsAt m s p i was → IsAt a s p i old
at-old a m s p i was old at now then = record { place = at.place; word = at.word ∙ sym then.word ∙ now.word }

put-then : (c : goal.After-drop_word-arg-1) → IsPut (core_of c.args.p.now) (core_of c.mark_changed.new.p) (core_of c.hold_word.new.p) (core_of c.store_word.new.p) c.args.s.0 c.args.at.place c.args.i c.args.w c.field_word-old.result
put-then c = record {
  core = c.requires.parts.core;
  at = at-old (core_of c.args.p.now) (core_of c.mark_changed.new.p) c.args.s.0 c.args.at.place c.args.i c.requires.there.0 c.field_word-old.result c.requires.there.1 c.field_word-old.ensures
      (at-mark (core_of c.args.p.now) (core_of c.mark_changed.new.p) c.args.s.0 c.args.at.place c.args.i c.requires.there.0 c.mark_changed.ensures.core c.requires.there.1);
  some = c.requires.some;
  mark = c.mark_changed.ensures.core;
  core_held = c.hold_word.ensures.parts.core;
  hold = c.hold_word.ensures.held;
  loose = c.requires.held;
  write = c.store_word.ensures.core;
}

put-now : (c : goal.After-drop_word) → IsPut (core_of c.args.p.now) (core_of c.mark_changed.new.p) (core_of c.hold_word.new.p) (core_of c.store_word.new.p) c.args.s.0 c.args.at.place c.args.i c.args.w c.field_word-old.result
put-now c = record {
  core = c.requires.parts.core;
  at = at-old (core_of c.args.p.now) (core_of c.mark_changed.new.p) c.args.s.0 c.args.at.place c.args.i c.requires.there.0 c.field_word-old.result c.requires.there.1 c.field_word-old.ensures
      (at-mark (core_of c.args.p.now) (core_of c.mark_changed.new.p) c.args.s.0 c.args.at.place c.args.i c.requires.there.0 c.mark_changed.ensures.core c.requires.there.1);
  some = c.requires.some;
  mark = c.mark_changed.ensures.core;
  core_held = c.hold_word.ensures.parts.core;
  hold = c.hold_word.ensures.held;
  loose = c.requires.held;
  write = c.store_word.ensures.core;
}

pub drop_word-requires-clause-held : goal.drop_word-requires-clause-held
drop_word-requires-clause-held c = put-loose (core_of c.args.p.now) (core_of c.mark_changed.new.p) (core_of c.hold_word.new.p) (core_of c.store_word.new.p) c.args.s.0 c.args.at.place c.args.i c.args.w c.field_word-old.result (put-then c)

pub returns-clause-within : goal.returns-clause-within
returns-clause-within c = put-within (core_of c.args.p.now) (core_of c.mark_changed.new.p) (core_of c.hold_word.new.p) (core_of c.store_word.new.p) (core_of c.drop_word.new.p) c.args.s.0 c.args.at.place c.args.i c.args.w c.field_word-old.result (put-now c) c.drop_word.ensures.dropped

pub returns-clause-backed : goal.returns-clause-backed
returns-clause-backed c = λ disk backed. put-backed (core_of c.args.p.now) (core_of c.mark_changed.new.p) (core_of c.hold_word.new.p) (core_of c.store_word.new.p) (core_of c.drop_word.new.p) disk c.args.s.0 c.args.at.place c.args.i c.args.w c.field_word-old.result (put-now c) c.drop_word.ensures.dropped.stays backed

pub returns-clause-held : goal.returns-clause-held
returns-clause-held c = λ disk o backed there. put-held (core_of c.args.p.now) (core_of c.mark_changed.new.p) (core_of c.hold_word.new.p) (core_of c.store_word.new.p) (core_of c.drop_word.new.p) disk c.args.s.0 c.args.at.place c.args.i c.args.w c.field_word-old.result o (put-now c) c.drop_word.ensures.dropped.stays backed there

pub returns-clause-spare : goal.returns-clause-spare
returns-clause-spare c = c.drop_word.ensures.spare ∙ ap (λ (n : Parts2). free_of n.table) c.store_word.ensures.same_names ∙ c.hold_word.ensures.spare ∙ c.mark_changed.ensures.spare

pub returns-clause-entry : goal.returns-clause-entry
returns-clause-entry c = put-entry (core_of c.args.p.now) (core_of c.mark_changed.new.p) (core_of c.hold_word.new.p) (core_of c.store_word.new.p) (core_of c.drop_word.new.p) c.args.s.0 c.args.at.place c.args.i c.args.w c.field_word-old.result (put-now c) c.drop_word.ensures.dropped

pub returns-clause-find : goal.returns-clause-find
returns-clause-find c = c.drop_word.ensures.dropped.find ∙ ap (λ (d : Core). d.find) c.store_word.ensures.core ∙ c.hold_word.ensures.find ∙ ap (λ (d : Core). d.find) c.mark_changed.ensures.core

pub words_mean_values-requires-clause-used : goal.words_mean_values-requires-clause-used
words_mean_values-requires-clause-used c = λ is. outside-used (core_of c.args.p.now) c.args.w c.requires.parts.core (c.requires.held is)

pub returns-clause-valued : goal.returns-clause-valued
returns-clause-valued c = λ disk backed valued.
    let there = held-there (core_of c.args.p.now) disk c.args.s.0 c.args.at.place c.args.i c.requires.there.0 c.requires.parts.core c.requires.there.1 in
    field-valued (held (core_of c.args.p.now) disk) (held (core_of c.drop_word.new.p) disk) ((core_of c.args.p.now).entries c.args.s.0).name c.args.i (object_at (core_of c.args.p.now) disk ((core_of c.args.p.now).entries c.args.s.0) c.args.at.place)
    (meant (core_of c.args.p.now).entries [] 0 c.args.w) there (returns-clause-held c disk (object_at (core_of c.args.p.now) disk ((core_of c.args.p.now).entries c.args.s.0) c.args.at.place) backed there) c.words_mean_values.ensures valued

pub returns-clause-room : goal.returns-clause-room
returns-clause-room c =
    subst (λ (g : Segment). SameRoom c.args.p.now.segment g) (sym c.drop_word.ensures.segment)
    (subst (λ (g : Segment). SameRoom g c.store_word.new.p.segment) (c.hold_word.ensures.segment ∙ c.mark_changed.ensures.segment) c.store_word.ensures.room)

pub returns-clause-size : goal.returns-clause-size
returns-clause-size c = (returns-clause-room c).size
