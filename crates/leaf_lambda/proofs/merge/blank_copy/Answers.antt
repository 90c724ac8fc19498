use Rattle.std.proofs.Common.{◌≡◌, ℕ, true, sym, ◌∙◌, ap, subst}
use Rattle.object_record.specs.Raw.{RawRecord, CanBlank, blank_record}
use Rattle.object_table.specs.declared.entry.Entry.{Entry}
use Rattle.object_table.specs.Entries.{is_used}
use Rattle.core_view.specs.Words.{header_in}
use Rattle.core_view.proofs.Core.{placed-used, class-used, used-live}
use Rattle.leaf_lambda.specs.Parts.{core_of}
use Rattle.leaf_lambda.specs.Records.{literals_for}
use Rattle.leaf_lambda.proofs.CopyLaws.{method-some, can-blank, blank-like}
use Rattle.leaf_lambda.proofs.merge.blank_copy.Goals as goal

pub used_entry-e-requires : goal.used_entry-e-requires
unfolding core_of
used_entry-e-requires c = placed-used ((core_of c.args.p.now).entries c.args.s.0).state c.args.at.place c.requires.place

pub used_entry-class-requires : goal.used_entry-class-requires
unfolding core_of
used_entry-class-requires c = subst (λ (e : Entry). is_used ((core_of c.args.p.now).entries e.class.0).state ≡ true) (sym c.used_entry-e.ensures)
    (used-live (core_of c.args.p.now) c.requires.parts.core ((core_of c.args.p.now).entries c.args.s.0).class.0 (class-used (core_of c.args.p.now) c.requires.parts.core c.args.s.0 c.args.at.place c.requires.place))

pub literals_of-literals-requires : goal.literals_of-literals-requires
unfolding core_of
literals_of-literals-requires c = λ is. method-some (core_of c.args.p.now) c.args.s.0 c.args.at.place c.requires.parts.core c.requires.place (ap (λ (e : Entry). e.kind) (sym c.used_entry-e.ensures) ∙ is)

pub blank-requires : goal.blank-requires
unfolding core_of
blank-requires c = subst (λ (n : ℕ). CanBlank c.used_entry-e.result.kind c.used_entry-e.result.len n) (sym c.literals_of-literals.ensures)
    (subst (λ (e : Entry). CanBlank e.kind e.len (literals_for e.kind (header_in ((core_of c.args.p.now).chunks c.args.at.place).words))) (sym c.used_entry-e.ensures)
    (can-blank ((core_of c.args.p.now).entries c.args.s.0).kind ((core_of c.args.p.now).entries c.args.s.0).len ((core_of c.args.p.now).chunks c.args.at.place).words (c.requires.parts.core.small c.args.s.0 c.args.at.place c.requires.place)))

pub returns-clause-copy : goal.returns-clause-copy
unfolding core_of
returns-clause-copy c = blank-like (core_of c.args.p.now) c.args.s.0 c.args.at.place c.used_entry-e.result.name c.used_entry-class.result.name c.blank.new.self c.requires.parts.core c.requires.place c.blank.ensures.record
    (ap (λ (e : Entry). e.name) c.used_entry-e.ensures)
    (c.blank.ensures.blank ∙ ap (λ (n : ℕ). blank_record c.used_entry-e.result.name c.used_entry-class.result.name c.used_entry-e.result.kind c.used_entry-e.result.len n) c.literals_of-literals.ensures
    ∙ ap (λ (e : Entry). blank_record c.used_entry-e.result.name c.used_entry-class.result.name e.kind e.len (literals_for e.kind (header_in ((core_of c.args.p.now).chunks c.args.at.place).words))) c.used_entry-e.ensures)

pub returns-clause-class : goal.returns-clause-class
unfolding core_of
returns-clause-class c = ap (λ (r : RawRecord). r.class) c.blank.ensures.blank ∙ ap (λ (e : Entry). e.name) c.used_entry-class.ensures ∙ ap (λ (e : Entry). ((core_of c.args.p.now).entries e.class.0).name) c.used_entry-e.ensures
