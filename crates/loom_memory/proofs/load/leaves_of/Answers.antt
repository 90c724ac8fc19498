use Rattle.std.proofs.Common.{ℕ, ◌+◌, sym, ◌∙◌, ap}
use Rattle.object_table.specs.declared.entry.Entry.{Entry}
use Rattle.object_table.specs.Entries.{place_of}
use Rattle.leaf_lambda.specs.Parts.{core_of}
use Rattle.core_view.specs.Room.{entries_by}
use Rattle.loom_memory.proofs.load.leaves_of.Goals as goal

pub used_entry-requires : goal.used_entry-requires
unfolding core_of
used_entry-requires c = c.requires.used

pub body_total-words-requires-clause-place : goal.body_total-words-requires-clause-place
unfolding core_of
body_total-words-requires-clause-place c = ap (λ (e : Entry). place_of e.state) (sym c.used_entry.ensures) ∙ sym c.place.ensures ∙ c.in-Some.is

pub field_total-requires-clause-place : goal.field_total-requires-clause-place
unfolding core_of
field_total-requires-clause-place c = ap (λ (e : Entry). place_of e.state) (sym c.used_entry.ensures) ∙ sym c.place.ensures ∙ c.in-Some.is

pub returns-in-None-clause-leaves : goal.returns-in-None-clause-leaves
unfolding core_of
returns-in-None-clause-leaves c = sym (ap (entries_by (core_of c.args.p.now).chunks ((core_of c.args.p.now).entries c.args.s.0)) (ap (λ (e : Entry). place_of e.state) (sym c.used_entry.ensures) ∙ sym c.place.ensures ∙ c.in-None.is))

pub returns-in-Some-clause-leaves : goal.returns-in-Some-clause-leaves
unfolding core_of
returns-in-Some-clause-leaves c = ap (λ (n : ℕ). 2 + n) c.field_total.ensures ∙ sym (ap (entries_by (core_of c.args.p.now).chunks ((core_of c.args.p.now).entries c.args.s.0)) (ap (λ (e : Entry). place_of e.state) (sym c.used_entry.ensures) ∙ sym c.place.ensures ∙ c.in-Some.is))
