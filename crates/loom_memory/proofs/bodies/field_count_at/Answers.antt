use Rattle.std.proofs.Common.{◌≡◌, ◌<◌, ℕ, Option, Some, None, refl, sym, ◌∙◌, ap, subst}
use Rattle.std.specs.Prelude.{IsSome}
use Rattle.long_names.specs.declared.object.Kind.TheVariants as kind
use Rattle.long_names.specs.declared.object.Body.{Body}
use Rattle.object_memory.specs.Shape.{field_count}
use Rattle.object_table.specs.declared.entry.Entry.{Entry}
use Rattle.object_table.specs.Entries.{place_of}
use Rattle.leaf_lambda.specs.Parts.{core_of}
use Rattle.purger.proofs.RoomLaws.{none-of, some-of}
use Rattle.loom_memory.proofs.BodyLaws.{of-body, count-at, no-count-at, small-at}
use Rattle.loom_memory.proofs.bodies.field_count_at.Goals as goal

pub used_entry-e-requires : goal.used_entry-e-requires
unfolding core_of
used_entry-e-requires c = c.requires.used

pub returns-then-not-is_some-clause-count : goal.returns-then-not-is_some-clause-count
unfolding core_of
returns-then-not-is_some-clause-count c = λ disk q there.
    let none = none-of c.place.result c.is_some.result c.is_some.ensures c.if-not-is_some.true in
    let no : ◌≡◌ {A = Option ℕ} None (Some q) = sym none ∙ c.place.ensures ∙ ap (λ (e : Entry). place_of e.state) c.used_entry-e.ensures ∙ there in
    absurd (cc)

pub returns-in-Pointers-clause-count : goal.returns-in-Pointers-clause-count
unfolding core_of
returns-in-Pointers-clause-count c =
    let x = core_of c.args.p.now in
    let body = some-of c.place.result c.is_some.result c.is_some.ensures c.if-not-is_some.false in
    let at : place_of (x.entries c.args.s.0).state ≡ Some body.0 = ap (λ (e : Entry). place_of e.state) (sym c.used_entry-e.ensures) ∙ sym c.place.ensures ∙ body.1 in
    let is : (x.entries c.args.s.0).kind ≡ kind.Pointers = ap (λ (e : Entry). e.kind) (sym c.used_entry-e.ensures) ∙ c.in-Pointers.is in
    of-body x c.args.s.0 body.0 (λ (b : Body). Some c.used_entry-e.result.len ≡ field_count b) at
    (λ disk. ap (λ (e : Entry). Some e.len) c.used_entry-e.ensures ∙ sym (count-at x disk c.args.s.0 body.0 c.requires.parts.core at is))

pub returns-in_default-clause-count : goal.returns-in_default-clause-count
unfolding core_of
returns-in_default-clause-count c =
    let x = core_of c.args.p.now in
    let body = some-of c.place.result c.is_some.result c.is_some.ensures c.if-not-is_some.false in
    let at : place_of (x.entries c.args.s.0).state ≡ Some body.0 = ap (λ (e : Entry). place_of e.state) (sym c.used_entry-e.ensures) ∙ sym c.place.ensures ∙ body.1 in
    of-body x c.args.s.0 body.0 (λ (b : Body). None ≡ field_count b) at
    (λ disk. sym (no-count-at x disk c.args.s.0 body.0 (λ is. c.in_default.not-Pointers (ap (λ (e : Entry). e.kind) c.used_entry-e.ensures ∙ is))))

pub returns-in-Pointers-clause-there : goal.returns-in-Pointers-clause-there
unfolding core_of
returns-in-Pointers-clause-there c =
    let body = some-of c.place.result c.is_some.result c.is_some.ensures c.if-not-is_some.false in
    let at : place_of ((core_of c.args.p.now).entries c.args.s.0).state ≡ Some body.0 = ap (λ (e : Entry). place_of e.state) (sym c.used_entry-e.ensures) ∙ sym c.place.ensures ∙ body.1 in
    subst IsSome (sym at) refl

pub returns-in-Pointers-clause-bound : goal.returns-in-Pointers-clause-bound
unfolding core_of
returns-in-Pointers-clause-bound c =
    let body = some-of c.place.result c.is_some.result c.is_some.ensures c.if-not-is_some.false in
    let at : place_of ((core_of c.args.p.now).entries c.args.s.0).state ≡ Some body.0 = ap (λ (e : Entry). place_of e.state) (sym c.used_entry-e.ensures) ∙ sym c.place.ensures ∙ body.1 in
    subst (λ (e : Entry). e.len < 65536) (sym c.used_entry-e.ensures) (small-at (core_of c.args.p.now) c.args.s.0 body.0 c.requires.parts.core at)
