use Rattle.std.proofs.Common.{ℕ, ◌+◌, sym, ◌∙◌, ap}
use Rattle.object_table.specs.declared.entry.Entry.{Entry}
use Rattle.object_table.specs.Entries.{place_of}
use Rattle.leaf_lambda.specs.Parts.{core_of}
use Rattle.core_view.specs.Room.{room_by}
use Rattle.loom_memory.proofs.load.room_of.Goals as goal

pub used_entry-requires : goal.used_entry-requires
unfolding core_of
used_entry-requires c = c.requires.used

pub body_total-requires-clause-place : goal.body_total-requires-clause-place
unfolding core_of
body_total-requires-clause-place c = ap (λ (e : Entry). place_of e.state) (sym c.used_entry.ensures) ∙ sym c.place.ensures ∙ c.in-Some.is

pub returns-in-None-clause-words : goal.returns-in-None-clause-words
unfolding core_of
returns-in-None-clause-words c = sym (ap (room_by (core_of c.args.p.now).chunks) (ap (λ (e : Entry). place_of e.state) (sym c.used_entry.ensures) ∙ sym c.place.ensures ∙ c.in-None.is))

pub returns-in-Some-clause-words : goal.returns-in-Some-clause-words
unfolding core_of
returns-in-Some-clause-words c = ap (λ (n : ℕ). 4 + n) c.body_total.ensures.words ∙ sym (ap (room_by (core_of c.args.p.now).chunks) (ap (λ (e : Entry). place_of e.state) (sym c.used_entry.ensures) ∙ sym c.place.ensures ∙ c.in-Some.is))
