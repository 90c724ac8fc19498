use Rattle.std.proofs.Common.{◌≡◌, ℕ, length, Option, Some, None, refl, sym, ◌∙◌, ap, subst}
use Rattle.std.specs.Prelude.{IsSome, OnSome}
use Rattle.long_names.specs.Words.{literal_count}
use Rattle.long_names.specs.declared.object.Kind.{Kind}
use Rattle.long_names.specs.declared.object.Kind.TheVariants as kind
use Rattle.long_names.specs.declared.object.Body.{Body}
use Rattle.object_memory.specs.Shape.{code_at}
use Rattle.object_table.specs.declared.entry.Entry.{Entry}
use Rattle.object_table.specs.Entries.{place_of}
use Rattle.core_view.specs.Words.{header_in, words_for}
use Rattle.leaf_lambda.specs.Parts.{core_of}
use Rattle.loom_memory.specs.Bodies.{code_from}
use Rattle.loom_memory.proofs.BodyLaws.{of-body, code-at, no-code-at}
use Rattle.loom_memory.proofs.bodies.code_byte_at.Goals as goal

on-some : {A : Type 0} (o : Option A) (P : Type 0) → P → OnSome o P
on-some None P p = tt
on-some (Some a) P p = p

pub used_entry-e-requires : goal.used_entry-e-requires
unfolding core_of
used_entry-e-requires c = c.requires.used

pub code_byte-requires : goal.code_byte-requires
unfolding core_of
code_byte-requires c =
    let x = core_of c.args.p.now in
    let ws = (x.chunks c.in-Some.body).words in
    let at : place_of (x.entries c.args.s.0).state ≡ Some c.in-Some.body = ap (λ (e : Entry). place_of e.state) (sym c.used_entry-e.ensures) ∙ sym c.place.ensures ∙ c.in-Some.is in
    let long : length ws ≡ words_for c.used_entry-e.result.kind c.used_entry-e.result.len (literal_count (header_in ws)) = subst (λ (e : Entry). length ws ≡ words_for e.kind e.len (literal_count (header_in ws))) (sym c.used_entry-e.ensures) (c.requires.parts.core.long c.args.s.0 c.in-Some.body at) in
    record { long = subst (λ (k : Kind). length ws ≡ words_for k c.used_entry-e.result.len (literal_count (header_in ws))) c.in-Method.is long }

pub returns-in-Method-clause-byte : goal.returns-in-Method-clause-byte
unfolding core_of
returns-in-Method-clause-byte c =
    let x = core_of c.args.p.now in
    let at : place_of (x.entries c.args.s.0).state ≡ Some c.in-Some.body = ap (λ (e : Entry). place_of e.state) (sym c.used_entry-e.ensures) ∙ sym c.place.ensures ∙ c.in-Some.is in
    let is : (x.entries c.args.s.0).kind ≡ kind.Method = ap (λ (e : Entry). e.kind) (sym c.used_entry-e.ensures) ∙ c.in-Method.is in
    of-body x c.args.s.0 c.in-Some.body (λ (b : Body). c.code_byte.result ≡ code_at c.args.place b) at
    (λ disk. c.code_byte.ensures ∙ ap (λ (e : Entry). code_from (x.chunks c.in-Some.body).words e.len c.args.place) c.used_entry-e.ensures ∙ sym (code-at x disk c.args.s.0 c.in-Some.body c.args.place c.requires.parts.core at is))

pub returns-in_default-clause-byte : goal.returns-in_default-clause-byte
unfolding core_of
returns-in_default-clause-byte c =
    let x = core_of c.args.p.now in
    let at : place_of (x.entries c.args.s.0).state ≡ Some c.in-Some.body = ap (λ (e : Entry). place_of e.state) (sym c.used_entry-e.ensures) ∙ sym c.place.ensures ∙ c.in-Some.is in
    of-body x c.args.s.0 c.in-Some.body (λ (b : Body). None ≡ code_at c.args.place b) at
    (λ disk. sym (no-code-at x disk c.args.s.0 c.in-Some.body c.args.place (λ is. c.in_default.not-Method (ap (λ (e : Entry). e.kind) c.used_entry-e.ensures ∙ is))))

pub returns-in-None-clause-byte : goal.returns-in-None-clause-byte
unfolding core_of
returns-in-None-clause-byte c = λ disk q there. let no : ◌≡◌ {A = Option ℕ} None (Some q) = sym c.in-None.is ∙ c.place.ensures ∙ ap (λ (e : Entry). place_of e.state) c.used_entry-e.ensures ∙ there in absurd (cc)

pub returns-in-Method-clause-there : goal.returns-in-Method-clause-there
unfolding core_of
returns-in-Method-clause-there c =
    let at : place_of ((core_of c.args.p.now).entries c.args.s.0).state ≡ Some c.in-Some.body = ap (λ (e : Entry). place_of e.state) (sym c.used_entry-e.ensures) ∙ sym c.place.ensures ∙ c.in-Some.is in
    on-some c.code_byte.result (IsSome (place_of ((core_of c.args.p.now).entries c.args.s.0).state)) (subst IsSome (sym at) refl)
