use Rattle.std.specs.Int.{w16}
use mir.Val.{to_z, of_z}
use Rattle.long_names.specs.Words.{IsSmallInteger}
use Rattle.object_memory.proofs.ShapeLaws.{small_number}
use Rattle.std.proofs.Common.{◌≡◌, Some, None, sym, ◌∙◌, ap, subst, arith}
use Rattle.long_names.specs.declared.object.Kind.TheVariants as kind
use Rattle.long_names.specs.declared.object.Body.{Body}
use Rattle.long_names.specs.Objects.{header_of}
use Rattle.object_table.specs.declared.entry.Entry.{Entry}
use Rattle.core_view.specs.Held.{fields_there}
use Rattle.core_view.proofs.Core.{placed-used}
use Rattle.leaf_lambda.specs.Parts.{core_of}
use Rattle.leaf_lambda.proofs.CopyLaws.{method-some}
use Rattle.leaf_lambda.proofs.MergeLaws.{header-first}
use Rattle.leaf_lambda.proofs.WordLaws.{odd-small}
use Rattle.loom_memory.proofs.BodyLaws.{of-body, header-is, header-none}
use Rattle.loom_memory.proofs.bodies.header_at.Goals as goal

pub used_entry-e-requires : goal.used_entry-e-requires
unfolding core_of
used_entry-e-requires c = placed-used ((core_of c.args.p.now).entries c.args.s.0).state c.requires.there.0 c.requires.there.1

pub word-requires : goal.word-requires
unfolding core_of
word-requires c =
    let x = core_of c.args.p.now in
    let at = c.place_of_body-at.result.place in
    method-some x c.args.s.0 at c.requires.parts.core c.place_of_body-at.ensures (ap (λ (e : Entry). e.kind) (sym c.used_entry-e.ensures) ∙ c.in-Method.is)

pub returns-in-Method-clause-header : goal.returns-in-Method-clause-header
unfolding core_of
returns-in-Method-clause-header c =
    let x = core_of c.args.p.now in
    let at = c.place_of_body-at.result.place in
    let is : (x.entries c.args.s.0).kind ≡ kind.Method = ap (λ (e : Entry). e.kind) (sym c.used_entry-e.ensures) ∙ c.in-Method.is in
    of-body x c.args.s.0 at (λ (b : Body). Some (to_z w16 (of_z w16 c.int_short.result)) ≡ header_of b) c.place_of_body-at.ensures
    (λ disk. ap Some (small_number c.int_short.result (subst IsSmallInteger (sym c.int_short.ensures) (odd-small c.word.result (omega arith)))) ∙ ap Some c.int_short.ensures ∙ ap Some (sym (header-first (x.chunks at).words c.word.result c.word.ensures)) ∙ sym (header-is x.entries (fields_there (disk (x.entries c.args.s.0).name)) (x.chunks at).words (x.entries c.args.s.0).kind (x.entries c.args.s.0).len is))

pub returns-in_default-clause-header : goal.returns-in_default-clause-header
unfolding core_of
returns-in_default-clause-header c =
    let x = core_of c.args.p.now in
    let at = c.place_of_body-at.result.place in
    of-body x c.args.s.0 at (λ (b : Body). None ≡ header_of b) c.place_of_body-at.ensures
    (λ disk. sym (header-none x.entries (fields_there (disk (x.entries c.args.s.0).name)) (x.chunks at).words (x.entries c.args.s.0).kind (x.entries c.args.s.0).len (λ is. c.in_default.not-Method (ap (λ (e : Entry). e.kind) c.used_entry-e.ensures ∙ is))))
