use Rattle.std.proofs.Common.{◌≡◌, MatchBool, true, false, length, sym, ◌∙◌, ap, arith}
use Rattle.long_names.specs.declared.object.Kind.TheVariants as kind
use Rattle.long_names.specs.declared.object.Body.{Body}
use Rattle.long_names.specs.Objects.{words_of}
use Rattle.object_table.specs.declared.entry.Entry.{Entry}
use Rattle.core_view.specs.Held.{object_at}
use Rattle.core_view.proofs.Core.{placed-used}
use Rattle.leaf_lambda.specs.Parts.{core_of}
use Rattle.loom_memory.specs.Bodies.{HasRun, LacksRun}
use Rattle.loom_memory.proofs.BodyLaws.{of-body, words-at, no-words-at, words-as-long, small-at, run-here, run-short, run-none}
use Rattle.loom_memory.proofs.bodies.words_into.Goals as goal

pub used_entry-e-requires : goal.used_entry-e-requires
unfolding core_of
used_entry-e-requires c = placed-used ((core_of c.args.p.now).entries c.args.s.0).state c.requires.there.0 c.requires.there.1

pub copy_words-requires-clause-within : goal.copy_words-requires-clause-within
unfolding core_of
copy_words-requires-clause-within c =
    let x = core_of c.args.p.now in
    let at = c.place_of_body-at.result.place in
    let is : (x.entries c.args.s.0).kind ≡ kind.Words = ap (λ (e : Entry). e.kind) (sym c.used_entry-e.ensures) ∙ c.in-Words.is in
    let len : c.used_entry-e.result.len ≡ (x.entries c.args.s.0).len = ap (λ (e : Entry). e.len) c.used_entry-e.ensures in
    let long = words-as-long x c.args.s.0 at c.requires.parts.core c.place_of_body-at.ensures is in
    let most = c.if-reaches.true in
    omega arith

pub copy_words-requires-clause-small : goal.copy_words-requires-clause-small
unfolding core_of
copy_words-requires-clause-small c =
    let x = core_of c.args.p.now in
    let at = c.place_of_body-at.result.place in
    let len : c.used_entry-e.result.len ≡ (x.entries c.args.s.0).len = ap (λ (e : Entry). e.len) c.used_entry-e.ensures in
    let small = small-at x c.args.s.0 at c.requires.parts.core c.place_of_body-at.ensures in
    omega arith

pub returns-then-reaches : goal.returns-then-reaches
unfolding core_of
returns-then-reaches c =
    let x = core_of c.args.p.now in
    let at = c.place_of_body-at.result.place in
    let is : (x.entries c.args.s.0).kind ≡ kind.Words = ap (λ (e : Entry). e.kind) (sym c.used_entry-e.ensures) ∙ c.in-Words.is in
    let len : c.used_entry-e.result.len ≡ (x.entries c.args.s.0).len = ap (λ (e : Entry). e.len) c.used_entry-e.ensures in
    let long = words-as-long x c.args.s.0 at c.requires.parts.core c.place_of_body-at.ensures is in
    of-body x c.args.s.0 at (λ (b : Body). MatchBool true (HasRun (words_of b) c.args.i (length c.args.out.now) c.copy_words.new.out) (LacksRun (words_of b) c.args.i (length c.args.out.now))) c.place_of_body-at.ensures
    (λ disk. run-here (words_of (object_at x disk (x.entries c.args.s.0) at).body) (x.chunks at).words c.copy_words.new.out c.args.i (length c.args.out.now) (words-at x disk c.args.s.0 at is) c.copy_words.ensures.long (omega arith) c.copy_words.ensures.run)

pub returns-else-reaches : goal.returns-else-reaches
unfolding core_of
returns-else-reaches c =
    let x = core_of c.args.p.now in
    let at = c.place_of_body-at.result.place in
    let is : (x.entries c.args.s.0).kind ≡ kind.Words = ap (λ (e : Entry). e.kind) (sym c.used_entry-e.ensures) ∙ c.in-Words.is in
    let len : c.used_entry-e.result.len ≡ (x.entries c.args.s.0).len = ap (λ (e : Entry). e.len) c.used_entry-e.ensures in
    let long = words-as-long x c.args.s.0 at c.requires.parts.core c.place_of_body-at.ensures is in
    of-body x c.args.s.0 at (λ (b : Body). MatchBool false (HasRun (words_of b) c.args.i (length c.args.out.now) c.args.out.now) (LacksRun (words_of b) c.args.i (length c.args.out.now))) c.place_of_body-at.ensures
    (λ disk. run-short (words_of (object_at x disk (x.entries c.args.s.0) at).body) (x.chunks at).words c.args.i (length c.args.out.now) (words-at x disk c.args.s.0 at is) (omega arith))

pub returns-in_default : goal.returns-in_default
unfolding core_of
returns-in_default c =
    let x = core_of c.args.p.now in
    let at = c.place_of_body-at.result.place in
    of-body x c.args.s.0 at (λ (b : Body). MatchBool false (HasRun (words_of b) c.args.i (length c.args.out.now) c.args.out.now) (LacksRun (words_of b) c.args.i (length c.args.out.now))) c.place_of_body-at.ensures
    (λ disk. run-none (words_of (object_at x disk (x.entries c.args.s.0) at).body) c.args.i (length c.args.out.now) (no-words-at x disk c.args.s.0 at (λ is. c.in_default.not-Words (ap (λ (e : Entry). e.kind) c.used_entry-e.ensures ∙ is))))
