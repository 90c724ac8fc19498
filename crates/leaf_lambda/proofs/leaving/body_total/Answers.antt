use Rattle.std.proofs.Common.{◌≡◌, sym, ◌∙◌, ap, arith}
use Rattle.long_names.specs.declared.object.Kind.{Kind}
use Rattle.long_names.specs.declared.object.Kind.TheVariants as kind
use Rattle.object_table.specs.declared.entry.Entry.{Entry}
use Rattle.core_view.specs.Words.{header_in}
use Rattle.core_view.proofs.Core.{placed-used}
use Rattle.leaf_lambda.specs.Parts.{core_of}
use Rattle.leaf_lambda.specs.Records.{literals_for}
use Rattle.leaf_lambda.proofs.CopyLaws.{body-small, len-small, long-as, method-some}
use Rattle.leaf_lambda.proofs.leaving.body_total.Goals as goal

pub used_entry-e-requires : goal.used_entry-e-requires
unfolding core_of
used_entry-e-requires c = placed-used ((core_of c.args.p.now).entries c.args.s.0).state c.args.at.place c.requires.place

pub literals_of-requires : goal.literals_of-requires
unfolding core_of
literals_of-requires c = λ is. method-some (core_of c.args.p.now) c.args.s.0 c.args.at.place c.requires.parts.core c.requires.place (ap (λ (e : Entry). e.kind) (sym c.used_entry-e.ensures) ∙ is)

pub overflow_add-result : goal.overflow_add-result
unfolding core_of
overflow_add-result c =
    let small = len-small (core_of c.args.p.now) c.args.s.0 c.args.at.place c.requires.parts.core c.requires.place in
    let len : c.used_entry-e.result.len ≡ ((core_of c.args.p.now).entries c.args.s.0).len = ap (λ (e : Entry). e.len) c.used_entry-e.ensures in
    omega arith

pub overflow_add-result-in-Method-2 : goal.overflow_add-result-in-Method-2
unfolding core_of
overflow_add-result-in-Method-2 c =
    let small = len-small (core_of c.args.p.now) c.args.s.0 c.args.at.place c.requires.parts.core c.requires.place in
    let len : c.used_entry-e.result.len ≡ ((core_of c.args.p.now).entries c.args.s.0).len = ap (λ (e : Entry). e.len) c.used_entry-e.ensures in
    omega arith

pub returns-in-Pointers-clause-words : goal.returns-in-Pointers-clause-words
unfolding core_of
returns-in-Pointers-clause-words c =
    let is : ((core_of c.args.p.now).entries c.args.s.0).kind ≡ kind.Pointers = ap (λ (e : Entry). e.kind) (sym c.used_entry-e.ensures) ∙ c.in-Pointers.is in
    let long = long-as (core_of c.args.p.now) c.args.s.0 c.args.at.place kind.Pointers c.requires.parts.core c.requires.place is in
    let len : c.used_entry-e.result.len ≡ ((core_of c.args.p.now).entries c.args.s.0).len = ap (λ (e : Entry). e.len) c.used_entry-e.ensures in
    omega arith

pub returns-in-Pointers-clause-small : goal.returns-in-Pointers-clause-small
unfolding core_of
returns-in-Pointers-clause-small c =
    let small = body-small (core_of c.args.p.now) c.args.s.0 c.args.at.place c.requires.parts.core c.requires.place in
    let words = returns-in-Pointers-clause-words c in
    omega arith

pub returns-in-Words-clause-words : goal.returns-in-Words-clause-words
unfolding core_of
returns-in-Words-clause-words c =
    let is : ((core_of c.args.p.now).entries c.args.s.0).kind ≡ kind.Words = ap (λ (e : Entry). e.kind) (sym c.used_entry-e.ensures) ∙ c.in-Words.is in
    let long = long-as (core_of c.args.p.now) c.args.s.0 c.args.at.place kind.Words c.requires.parts.core c.requires.place is in
    let len : c.used_entry-e.result.len ≡ ((core_of c.args.p.now).entries c.args.s.0).len = ap (λ (e : Entry). e.len) c.used_entry-e.ensures in
    omega arith

pub returns-in-Words-clause-small : goal.returns-in-Words-clause-small
unfolding core_of
returns-in-Words-clause-small c =
    let small = body-small (core_of c.args.p.now) c.args.s.0 c.args.at.place c.requires.parts.core c.requires.place in
    let words = returns-in-Words-clause-words c in
    omega arith

pub returns-in-Bytes-clause-words : goal.returns-in-Bytes-clause-words
unfolding core_of
returns-in-Bytes-clause-words c =
    let is : ((core_of c.args.p.now).entries c.args.s.0).kind ≡ kind.Bytes = ap (λ (e : Entry). e.kind) (sym c.used_entry-e.ensures) ∙ c.in-Bytes.is in
    let long = long-as (core_of c.args.p.now) c.args.s.0 c.args.at.place kind.Bytes c.requires.parts.core c.requires.place is in
    let len : c.used_entry-e.result.len ≡ ((core_of c.args.p.now).entries c.args.s.0).len = ap (λ (e : Entry). e.len) c.used_entry-e.ensures in
    omega arith

pub returns-in-Bytes-clause-small : goal.returns-in-Bytes-clause-small
unfolding core_of
returns-in-Bytes-clause-small c =
    let small = body-small (core_of c.args.p.now) c.args.s.0 c.args.at.place c.requires.parts.core c.requires.place in
    let words = returns-in-Bytes-clause-words c in
    omega arith

pub returns-in-Method-clause-words : goal.returns-in-Method-clause-words
unfolding core_of
returns-in-Method-clause-words c =
    let is : ((core_of c.args.p.now).entries c.args.s.0).kind ≡ kind.Method = ap (λ (e : Entry). e.kind) (sym c.used_entry-e.ensures) ∙ c.in-Method.is in
    let long = long-as (core_of c.args.p.now) c.args.s.0 c.args.at.place kind.Method c.requires.parts.core c.requires.place is in
    let len : c.used_entry-e.result.len ≡ ((core_of c.args.p.now).entries c.args.s.0).len = ap (λ (e : Entry). e.len) c.used_entry-e.ensures in
    let literals = c.literals_of.ensures ∙ ap (λ (j : Kind). literals_for j (header_in ((core_of c.args.p.now).chunks c.args.at.place).words)) c.in-Method.is in
    omega arith

pub returns-in-Method-clause-small : goal.returns-in-Method-clause-small
unfolding core_of
returns-in-Method-clause-small c =
    let small = body-small (core_of c.args.p.now) c.args.s.0 c.args.at.place c.requires.parts.core c.requires.place in
    let words = returns-in-Method-clause-words c in
    omega arith
