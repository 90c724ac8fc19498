use Rattle.std.proofs.Common.{◌≡◌, length, sym, ◌∙◌, ap}
use Rattle.long_names.specs.declared.object.Kind.{Kind}
use Rattle.long_names.specs.declared.object.Kind.TheVariants as kind
use Rattle.object_table.specs.declared.entry.Entry.{Entry}
use Rattle.core_view.specs.Words.{pointers, header_in}
use Rattle.core_view.proofs.Core.{placed-used}
use Rattle.leaf_lambda.specs.Parts.{core_of}
use Rattle.leaf_lambda.specs.Records.{literals_for}
use Rattle.leaf_lambda.proofs.CopyLaws.{long-as, method-some}
use Rattle.leaf_lambda.proofs.MergeLaws.{literals-length}
use Rattle.leaf_lambda.proofs.leaving.field_total.Goals as goal

pub used_entry-e-requires : goal.used_entry-e-requires
unfolding core_of
used_entry-e-requires c = placed-used ((core_of c.args.p.now).entries c.args.s.0).state c.args.at.place c.requires.place

pub literals_of-requires : goal.literals_of-requires
unfolding core_of
literals_of-requires c = λ is. method-some (core_of c.args.p.now) c.args.s.0 c.args.at.place c.requires.parts.core c.requires.place (ap (λ (e : Entry). e.kind) (sym c.used_entry-e.ensures) ∙ is)

pub returns-in-Pointers : goal.returns-in-Pointers
unfolding core_of
returns-in-Pointers c =
    let is : ((core_of c.args.p.now).entries c.args.s.0).kind ≡ kind.Pointers = ap (λ (e : Entry). e.kind) (sym c.used_entry-e.ensures) ∙ c.in-Pointers.is in
    ap (λ (e : Entry). e.len) c.used_entry-e.ensures ∙ sym (long-as (core_of c.args.p.now) c.args.s.0 c.args.at.place kind.Pointers c.requires.parts.core c.requires.place is)
    ∙ ap (λ (k : Kind). length (pointers k ((core_of c.args.p.now).chunks c.args.at.place).words)) (sym is)

pub returns-in-Method : goal.returns-in-Method
unfolding core_of
returns-in-Method c =
    let is : ((core_of c.args.p.now).entries c.args.s.0).kind ≡ kind.Method = ap (λ (e : Entry). e.kind) (sym c.used_entry-e.ensures) ∙ c.in-Method.is in
    c.literals_of.ensures ∙ ap (λ (k : Kind). literals_for k (header_in ((core_of c.args.p.now).chunks c.args.at.place).words)) c.in-Method.is
    ∙ sym (literals-length ((core_of c.args.p.now).chunks c.args.at.place).words ((core_of c.args.p.now).entries c.args.s.0).len (long-as (core_of c.args.p.now) c.args.s.0 c.args.at.place kind.Method c.requires.parts.core c.requires.place is))
    ∙ ap (λ (k : Kind). length (pointers k ((core_of c.args.p.now).chunks c.args.at.place).words)) (sym is)

pub returns-in-Words : goal.returns-in-Words
unfolding core_of
returns-in-Words c = ap (λ (k : Kind). length (pointers k ((core_of c.args.p.now).chunks c.args.at.place).words)) (sym c.in-Words.is ∙ ap (λ (e : Entry). e.kind) c.used_entry-e.ensures)

pub returns-in-Bytes : goal.returns-in-Bytes
unfolding core_of
returns-in-Bytes c = ap (λ (k : Kind). length (pointers k ((core_of c.args.p.now).chunks c.args.at.place).words)) (sym c.in-Bytes.is ∙ ap (λ (e : Entry). e.kind) c.used_entry-e.ensures)
