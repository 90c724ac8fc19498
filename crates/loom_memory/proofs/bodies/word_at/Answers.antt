use Rattle.std.proofs.Common.{◌≡◌, Some, None, sym, ◌∙◌, ap, arith}
use Rattle.std.specs.List.{slice_get}
use Rattle.std.specs.Option.{option_and_then}
use Rattle.long_names.specs.declared.object.Kind.TheVariants as kind
use Rattle.long_names.specs.declared.object.Body.{Body}
use Rattle.long_names.specs.Objects.{words_of}
use Rattle.object_table.specs.declared.entry.Entry.{Entry}
use Rattle.core_view.specs.Held.{object_at}
use Rattle.core_view.proofs.Core.{placed-used}
use Rattle.leaf_lambda.specs.Parts.{core_of}
use Rattle.loom_memory.proofs.BodyLaws.{of-body, words-at, no-words-at, words-as-long, element-here, element-none, none-there}
use Rattle.loom_memory.proofs.bodies.word_at.Goals as goal

pub used_entry-e-requires : goal.used_entry-e-requires
unfolding core_of
used_entry-e-requires c = placed-used ((core_of c.args.p.now).entries c.args.s.0).state c.requires.there.0 c.requires.there.1

pub word-requires : goal.word-requires
unfolding core_of
word-requires c =
    let x = core_of c.args.p.now in
    let at = c.place_of_body-at.result.place in
    let is : (x.entries c.args.s.0).kind ≡ kind.Words = ap (λ (e : Entry). e.kind) (sym c.used_entry-e.ensures) ∙ c.in-Words.is in
    let len : c.used_entry-e.result.len ≡ (x.entries c.args.s.0).len = ap (λ (e : Entry). e.len) c.used_entry-e.ensures in
    let long = words-as-long x c.args.s.0 at c.requires.parts.core c.place_of_body-at.ensures is in
    let low = c.if-i-e.true in
    omega arith

pub returns-then-i-e : goal.returns-then-i-e
unfolding core_of
returns-then-i-e c =
    let x = core_of c.args.p.now in
    let at = c.place_of_body-at.result.place in
    let is : (x.entries c.args.s.0).kind ≡ kind.Words = ap (λ (e : Entry). e.kind) (sym c.used_entry-e.ensures) ∙ c.in-Words.is in
    of-body x c.args.s.0 at (λ (b : Body). Some c.word.result ≡ option_and_then (λ words. slice_get words c.args.i) (words_of b)) c.place_of_body-at.ensures
    (λ disk. element-here (words_of (object_at x disk (x.entries c.args.s.0) at).body) (x.chunks at).words c.args.i c.word.result (words-at x disk c.args.s.0 at is) c.word.ensures)

pub returns-else-i-e : goal.returns-else-i-e
unfolding core_of
returns-else-i-e c =
    let x = core_of c.args.p.now in
    let at = c.place_of_body-at.result.place in
    let is : (x.entries c.args.s.0).kind ≡ kind.Words = ap (λ (e : Entry). e.kind) (sym c.used_entry-e.ensures) ∙ c.in-Words.is in
    let len : c.used_entry-e.result.len ≡ (x.entries c.args.s.0).len = ap (λ (e : Entry). e.len) c.used_entry-e.ensures in
    let long = words-as-long x c.args.s.0 at c.requires.parts.core c.place_of_body-at.ensures is in
    let past = c.if-i-e.false in
    of-body x c.args.s.0 at (λ (b : Body). None ≡ option_and_then (λ words. slice_get words c.args.i) (words_of b)) c.place_of_body-at.ensures
    (λ disk. element-none (words_of (object_at x disk (x.entries c.args.s.0) at).body) (x.chunks at).words c.args.i (words-at x disk c.args.s.0 at is) (omega arith))

pub returns-in_default : goal.returns-in_default
unfolding core_of
returns-in_default c =
    let x = core_of c.args.p.now in
    let at = c.place_of_body-at.result.place in
    of-body x c.args.s.0 at (λ (b : Body). None ≡ option_and_then (λ words. slice_get words c.args.i) (words_of b)) c.place_of_body-at.ensures
    (λ disk. none-there (words_of (object_at x disk (x.entries c.args.s.0) at).body) c.args.i (no-words-at x disk c.args.s.0 at (λ is. c.in_default.not-Words (ap (λ (e : Entry). e.kind) c.used_entry-e.ensures ∙ is))))
