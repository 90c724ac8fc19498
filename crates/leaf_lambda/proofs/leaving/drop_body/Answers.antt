use Rattle.std.proofs.Common.{◌≡◌, ℕ, ◌∷◌, ◌+◌, ◌<◌, true, false, Some, length, count_by, refl, sym, ◌∙◌, ap, subst, arith}
use Rattle.std.proofs.lemmas.Grind.{common_steps}
use Rattle.object_table.specs.declared.entry.Entry.{Entry}
use Rattle.object_table.specs.Entries.{is_short, is_used, place_of, with_refs}
use Rattle.object_table.specs.Table as table
use Rattle.object_table.specs.Table.{entry_at}
use Rattle.core_segment.specs.Segment.{size_of, free_of, largest_of}
use Rattle.resident_table.specs.declared.Parts2.{Parts2}
use Rattle.core_view.specs.Core.{Core}
use Rattle.core_view.specs.Words.{pointers}
use Rattle.core_view.specs.Counts.{names, one, outside}
use Rattle.core_view.specs.Kept.{Keeps}
use Rattle.core_view.specs.Steps.{closed}
use Rattle.core_view.proofs.Lists.{put-here, one-here, count-cons}
use Rattle.core_view.proofs.Core.{placed-used}
use Rattle.core_view.proofs.Bodies.{closing-outside, closing-keeps}
use Rattle.core_view.proofs.Moves.{move-outside, move-stays}
use Rattle.leaf_lambda.specs.Parts.{core_of}
use Rattle.leaf_lambda.proofs.TranslateLaws.{Within-trans}
use Rattle.leaf_lambda.proofs.LeavingLaws.{closed-loose, close-within}
use Rattle.resident_table.specs.Resident.{short_of}
use Rattle.leaf_lambda.proofs.leaving.drop_body.Goals as goal
use Rattle.leaf_lambda.proofs.TranslateLaws.{let-dropped}
use Rattle.leaf_lambda.specs.Parts.{IsDropping}

some-same : (x y : ℕ) → Some x ≡ Some y → x ≡ y
some-same x y e = cc

above : (s : ℕ) → is_short s ≡ true → 0 < s
above s is = grind (arith, common_steps)

pub field_total-count-requires-clause-place : goal.field_total-count-requires-clause-place
field_total-count-requires-clause-place c = c.place_of_body-at.ensures

pub used_entry-requires : goal.used_entry-requires
unfolding core_of
used_entry-requires c = placed-used ((core_of c.unresolve_fields.new.p).entries c.args.s.0).state c.place_of_body-at.result.place (ap (λ (e : Entry). place_of e.state) c.unresolve_fields.ensures.entry ∙ c.place_of_body-at.ensures)

pub close_body-requires-clause-place : goal.close_body-requires-clause-place
close_body-requires-clause-place c = ap (λ (e : Entry). place_of e.state) c.unresolve_fields.ensures.entry ∙ c.place_of_body-at.ensures

pub give_chunk-requires-clause-loose : goal.give_chunk-requires-clause-loose
give_chunk-requires-clause-loose c = closed-loose (core_of c.unresolve_fields.new.p) (core_of c.close_body.new.p) c.args.s.0 c.place_of_body-at.result.place c.unresolve_fields.ensures.parts.core
    (ap (λ (e : Entry). place_of e.state) c.unresolve_fields.ensures.entry ∙ c.place_of_body-at.ensures) c.close_body.ensures.core

pub give_chunk-requires-clause-owned : goal.give_chunk-requires-clause-owned
give_chunk-requires-clause-owned c =
    let at = ap (λ (e : Entry). place_of e.state) c.unresolve_fields.ensures.entry ∙ c.place_of_body-at.ensures in
    let owner : ((core_of c.close_body.new.p).chunks c.place_of_body-at.result.place).owner ≡ c.args.s.0 = ap (λ (d : Core). (d.chunks c.place_of_body-at.result.place).owner) c.close_body.ensures.core ∙ c.unresolve_fields.ensures.parts.core.owned c.args.s.0 c.place_of_body-at.result.place at in
    subst (λ (n : ℕ). 0 < n) (sym owner) (above c.args.s.0 (c.unresolve_fields.ensures.parts.core.short c.args.s.0 (placed-used ((core_of c.unresolve_fields.new.p).entries c.args.s.0).state c.place_of_body-at.result.place at)))

pub let_go-requires-clause-held : goal.let_go-requires-clause-held
unfolding core_of
let_go-requires-clause-held c =
    let u = (core_of c.unresolve_fields.new.p) in
    let k = c.used_entry.result.class.0 in
    let at = ap (λ (e : Entry). place_of e.state) c.unresolve_fields.ensures.entry ∙ c.place_of_body-at.ensures in
    let class : (u.entries c.args.s.0).class.0 ≡ k = ap (λ (e : Entry). e.class.0) (sym c.used_entry.ensures) in
    let out : outside (core_of c.close_body.new.p) k ≡ outside u k + count_by (names k) ((u.entries c.args.s.0).class.0 ∷ pointers (u.entries c.args.s.0).kind (u.chunks c.place_of_body-at.result.place).words) =
    ap (λ (x : Core). outside x k) c.close_body.ensures.core ∙ closing-outside u c.args.s.0 c.place_of_body-at.result.place (closed (u.entries c.args.s.0)) k c.unresolve_fields.ensures.parts.core (record { place = at; gone = refl; still = refl; name = refl; refs = refl }) in
    let first = count-cons k (u.entries c.args.s.0).class.0 (pointers (u.entries c.args.s.0).kind (u.chunks c.place_of_body-at.result.place).words) in
    let short : is_short k ≡ true = subst (λ (z : ℕ). is_short z ≡ true) class (c.unresolve_fields.ensures.parts.core.classed c.args.s.0 c.place_of_body-at.result.place at) in
    let here : one k (u.entries c.args.s.0).class.0 ≡ 1 = ap (one k) class ∙ one-here k short in
    let same = move-outside (core_of c.close_body.new.p) (core_of c.give_chunk.new.p) k c.give_chunk.ensures.moves in
    omega arith

dropped : (c : goal.After-let_go) → IsDropping c.used_entry.result.class.0 (core_of c.give_chunk.new.p) (core_of c.let_go.new.p)
dropped c = let-dropped (core_of c.give_chunk.new.p) (core_of c.let_go.new.p) c.used_entry.result.class.0 c.let_go.ensures.stays c.let_go.ensures.step c.let_go.ensures.outside c.let_go.ensures.core

entries-same : (c : goal.After-let_go) → (core_of c.give_chunk.new.p).entries ≡ (core_of c.close_body.new.p).entries
unfolding core_of
entries-same c = ap (λ (n : Parts2). entry_at n.table) c.give_chunk.ensures.same_names

pub returns-clause-within : goal.returns-clause-within
unfolding core_of
returns-clause-within c = Within-trans c.args.s.0 (core_of c.args.p.now) (core_of c.unresolve_fields.new.p) (core_of c.let_go.new.p) c.unresolve_fields.ensures.within
    (close-within (core_of c.unresolve_fields.new.p) (core_of c.close_body.new.p) (core_of c.give_chunk.new.p) (core_of c.let_go.new.p) c.args.s.0 c.place_of_body-at.result.place c.used_entry.result.class.0 c.field_total-count.result c.unresolve_fields.ensures.parts.core
    (ap (λ (e : Entry). place_of e.state) c.unresolve_fields.ensures.entry ∙ c.place_of_body-at.ensures)
    (ap (λ (e : Entry). e.class.0) (sym c.used_entry.ensures))
    (ap (λ (e : Entry). pointers e.kind ((core_of c.unresolve_fields.new.p).chunks c.place_of_body-at.result.place).words) c.unresolve_fields.ensures.entry ∙ c.unresolve_fields.ensures.fields)
    c.close_body.ensures.core c.give_chunk.ensures.moves (entries-same c) (ap (λ (d : Core). d.chunks) c.give_chunk.ensures.core) (dropped c))

pub returns-clause-stays : goal.returns-clause-stays
returns-clause-stays c = λ disk backed.
    let at = ap (λ (e : Entry). place_of e.state) c.unresolve_fields.ensures.entry ∙ c.place_of_body-at.ensures in
    let clean : ((core_of c.unresolve_fields.new.p).entries c.args.s.0).flags.changed ≡ false = ap (λ (e : Entry). e.flags.changed) c.unresolve_fields.ensures.entry ∙ c.requires.clean.1 in
    let a = c.unresolve_fields.ensures.stays disk backed in
    let b : Keeps disk (core_of c.unresolve_fields.new.p) (core_of c.close_body.new.p) = subst (λ (d : Core). Keeps disk (core_of c.unresolve_fields.new.p) d) (sym c.close_body.ensures.core)
    (closing-keeps (core_of c.unresolve_fields.new.p) disk c.args.s.0 c.place_of_body-at.result.place (closed ((core_of c.unresolve_fields.new.p).entries c.args.s.0)) c.unresolve_fields.ensures.parts.core a.backed (record { place = at; gone = refl; still = refl; name = refl; refs = refl }) clean) in
    let d = move-stays (core_of c.close_body.new.p) (core_of c.give_chunk.new.p) c.close_body.ensures.parts.core c.give_chunk.ensures.moves disk b.backed in
    let e = c.let_go.ensures.stays disk d.backed in
    record { backed = e.backed; held = e.held ∙ d.held ∙ b.held ∙ a.held }

pub returns-clause-gone : goal.returns-clause-gone
returns-clause-gone c = c.let_go.ensures.step.leaves c.args.s.0
    (ap (λ (f : ℕ → Entry). place_of (f c.args.s.0).state) (entries-same c) ∙ ap (λ (d : Core). place_of (d.entries c.args.s.0).state) c.close_body.ensures.core ∙ ap (λ (e : Entry). place_of e.state) (put-here (core_of c.unresolve_fields.new.p).entries c.args.s.0 (closed ((core_of c.unresolve_fields.new.p).entries c.args.s.0))))

pub returns-clause-spare : goal.returns-clause-spare
returns-clause-spare c = c.let_go.ensures.spare ∙ ap (λ (n : Parts2). table.free_of n.table) c.give_chunk.ensures.same_names ∙ c.close_body.ensures.spare ∙ c.unresolve_fields.ensures.spare

find-same : (c : goal.After-let_go) → (core_of c.give_chunk.new.p).find ≡ (core_of c.close_body.new.p).find
unfolding core_of
find-same c = ap (λ (n : Parts2). short_of n.resident) c.give_chunk.ensures.same_names

pub returns-clause-find : goal.returns-clause-find
returns-clause-find c = (dropped c).find ∙ find-same c ∙ ap (λ (d : Core). d.find) c.close_body.ensures.core ∙ c.unresolve_fields.ensures.find

pub returns-clause-entry : goal.returns-clause-entry
returns-clause-entry c =
    let before : (core_of c.give_chunk.new.p).entries c.args.s.0 ≡ closed ((core_of c.unresolve_fields.new.p).entries c.args.s.0) =
    ap (λ (f : ℕ → Entry). f c.args.s.0) (entries-same c) ∙ ap (λ (d : Core). d.entries c.args.s.0) c.close_body.ensures.core ∙ put-here (core_of c.unresolve_fields.new.p).entries c.args.s.0 (closed ((core_of c.unresolve_fields.new.p).entries c.args.s.0)) in
    (dropped c).others.same c.args.s.0 (ap (λ (e : Entry). is_used e.state) before)
    ∙ ap (λ (e : Entry). with_refs e ((core_of c.let_go.new.p).entries c.args.s.0).refs) (before ∙ ap closed c.unresolve_fields.ensures.entry)

pub returns-clause-size : goal.returns-clause-size
returns-clause-size c = ap size_of c.let_go.ensures.segment ∙ c.give_chunk.ensures.size ∙ ap size_of c.close_body.ensures.segment ∙ c.unresolve_fields.ensures.room.size

pub returns-clause-free : goal.returns-clause-free
returns-clause-free c = λ at there.
    let same : at ≡ c.place_of_body-at.result.place = some-same at c.place_of_body-at.result.place (sym there ∙ c.place_of_body-at.ensures) in
    let last : free_of c.let_go.new.p.segment ≡ free_of c.give_chunk.new.p.segment = ap free_of c.let_go.ensures.segment in
    let given = c.give_chunk.ensures.free in
    let closed_ : free_of c.close_body.new.p.segment ≡ free_of c.unresolve_fields.new.p.segment = ap free_of c.close_body.ensures.segment in
    let first = c.unresolve_fields.ensures.room.free in
    let words : length ((core_of c.close_body.new.p).chunks c.place_of_body-at.result.place).words ≡ length ((core_of c.args.p.now).chunks at).words =
    ap (λ (d : Core). length (d.chunks c.place_of_body-at.result.place).words) c.close_body.ensures.core ∙ c.unresolve_fields.ensures.long ∙ ap (λ (q : ℕ). length ((core_of c.args.p.now).chunks q).words) (sym same) in
    omega arith

pub returns-clause-largest : goal.returns-clause-largest
returns-clause-largest c = λ at there.
    let same : at ≡ c.place_of_body-at.result.place = some-same at c.place_of_body-at.result.place (sym there ∙ c.place_of_body-at.ensures) in
    let last : largest_of c.let_go.new.p.segment ≡ largest_of c.give_chunk.new.p.segment = ap largest_of c.let_go.ensures.segment in
    let given = c.give_chunk.ensures.largest in
    let closed_ : largest_of c.close_body.new.p.segment ≡ largest_of c.unresolve_fields.new.p.segment = ap largest_of c.close_body.ensures.segment in
    let first = c.unresolve_fields.ensures.room.largest in
    let words : length ((core_of c.close_body.new.p).chunks c.place_of_body-at.result.place).words ≡ length ((core_of c.args.p.now).chunks at).words =
    ap (λ (d : Core). length (d.chunks c.place_of_body-at.result.place).words) c.close_body.ensures.core ∙ c.unresolve_fields.ensures.long ∙ ap (λ (q : ℕ). length ((core_of c.args.p.now).chunks q).words) (sym same) in
    (let a = given.0 in omega arith, let b = given.1 in omega arith)
