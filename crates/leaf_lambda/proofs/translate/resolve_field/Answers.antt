use Rattle.std.proofs.Common.{◌≡◌, ℕ, sym, ◌∙◌, ap, subst, arith}
use Rattle.std.specs.List.{slice_set}
use Rattle.object_table.specs.Entries.{with_refs}
use Rattle.core_segment.specs.declared.segment.Segment.{Segment}
use Rattle.core_segment.specs.Segment.{SameRoom}
use Rattle.leaf_lambda.proofs.RoomLaws.{Room-refl}
use Rattle.object_record.specs.Objects.{value_in}
use Rattle.core_view.specs.Core.{Core}
use Rattle.core_view.specs.Words.{pointers}
use Rattle.core_view.proofs.Lists.{one-here}
use Rattle.leaf_lambda.specs.Parts.{core_of, spare_of, IsHolding}
use Rattle.object_table.specs.Table.{free_of}
use Rattle.resident_table.specs.declared.Parts2.{Parts2}
use Rattle.leaf_lambda.proofs.TranslateLaws.{Sparing-same, at-later, resolve-keeps, resolve-within, resolve-fields, unresolved-within, unresolved-fields, naming-entries}
use Rattle.leaf_lambda.proofs.translate.resolve_field.Goals as goal

pub store_word-requires-clause-there : goal.store_word-requires-clause-there
store_word-requires-clause-there c = (0, at-later (core_of c.args.p.now) (core_of c.short_for-w.new.p) c.args.s.0 c.args.at.place c.args.i 0 c.short_for-w.ensures.held.step c.requires.there)

pub store_word-requires-clause-held : goal.store_word-requires-clause-held
store_word-requires-clause-held c = λ is. let out = c.short_for-w.ensures.held.one_more c.short_for-w.result in let here = one-here c.short_for-w.result is in omega arith

pub returns-then-w-ne0-clause-keeps : goal.returns-then-w-ne0-clause-keeps
returns-then-w-ne0-clause-keeps c = λ disk backed there.
    resolve-keeps (core_of c.args.p.now) (core_of c.short_for-w.new.p) (core_of c.store_word.new.p) disk c.args.s.0 c.args.at.place c.args.i c.short_for-w.result (value_in c.args.long)
    c.short_for-w.ensures.parts.core c.short_for-w.ensures.held c.requires.there c.if-w-ne0.true (c.short_for-w.ensures.means c.if-w-ne0.true) c.store_word.ensures.core backed there

pub returns-then-w-ne0-clause-resolves : goal.returns-then-w-ne0-clause-resolves
returns-then-w-ne0-clause-resolves c =
    let names : spare_of c.store_word.new.p ≡ spare_of c.short_for-w.new.p = ap (λ (n : Parts2). free_of n.table) c.store_word.ensures.same_names in
    record {
      within = resolve-within (core_of c.args.p.now) (core_of c.short_for-w.new.p) (core_of c.store_word.new.p) c.args.s.0 c.args.at.place c.args.i c.short_for-w.result
          c.short_for-w.ensures.parts.core c.short_for-w.ensures.held c.requires.there
          (λ is. let out = c.short_for-w.ensures.held.one_more c.short_for-w.result in let here = one-here c.short_for-w.result is in omega arith) c.store_word.ensures.core;
      naming = naming-entries (core_of c.args.p.now) (core_of c.short_for-w.new.p) (core_of c.store_word.new.p) c.short_for-w.ensures.held.naming (ap (λ (d : Core). d.entries) c.store_word.ensures.core);
      entry = subst (λ (d : Core). d.entries c.args.s.0 ≡ with_refs ((core_of c.args.p.now).entries c.args.s.0) (d.entries c.args.s.0).refs) (sym c.store_word.ensures.core) (c.short_for-w.ensures.held.step.bodies c.args.s.0 c.args.at.place c.requires.there.place);
      sparing = Sparing-same c.args.p.now c.short_for-w.new.p c.store_word.new.p c.short_for-w.ensures.sparing (ap (λ (d : Core). d.find) c.store_word.ensures.core) names;
      cost = let cost = c.short_for-w.ensures.cost in omega arith;
      room = subst (λ (g : Segment). SameRoom g c.store_word.new.p.segment) c.short_for-w.ensures.segment c.store_word.ensures.room;
    }

pub returns-then-w-ne0-clause-fields : goal.returns-then-w-ne0-clause-fields
returns-then-w-ne0-clause-fields c = resolve-fields (core_of c.args.p.now) (core_of c.short_for-w.new.p) (core_of c.store_word.new.p) c.args.s.0 c.args.at.place c.args.i c.short_for-w.result c.short_for-w.ensures.held.step c.requires.there c.store_word.ensures.core

pub returns-then-w-ne0-clause-lambda : goal.returns-then-w-ne0-clause-lambda
returns-then-w-ne0-clause-lambda c = λ zero_. absurd (c.if-w-ne0.true zero_)

nothing : (c : goal.Else-w-ne0) → IsHolding 0 (core_of c.args.p.now) (core_of c.short_for-w.new.p)
nothing c = subst (λ (w : ℕ). IsHolding w (core_of c.args.p.now) (core_of c.short_for-w.new.p)) c.if-w-ne0.false c.short_for-w.ensures.held

pub returns-else-w-ne0-clause-keeps : goal.returns-else-w-ne0-clause-keeps
returns-else-w-ne0-clause-keeps c = λ disk backed there. c.short_for-w.ensures.held.stays disk backed

pub returns-else-w-ne0-clause-resolves : goal.returns-else-w-ne0-clause-resolves
returns-else-w-ne0-clause-resolves c = record {
  within = unresolved-within (core_of c.args.p.now) (core_of c.short_for-w.new.p) c.args.s.0 (nothing c);
  naming = c.short_for-w.ensures.held.naming;
  entry = c.short_for-w.ensures.held.step.bodies c.args.s.0 c.args.at.place c.requires.there.place;
  sparing = c.short_for-w.ensures.sparing;
  cost = c.short_for-w.ensures.cost;
  room = subst (λ (g : Segment). SameRoom g c.short_for-w.new.p.segment) c.short_for-w.ensures.segment (Room-refl c.short_for-w.new.p.segment);
}

pub returns-else-w-ne0-clause-fields : goal.returns-else-w-ne0-clause-fields
returns-else-w-ne0-clause-fields c =
    unresolved-fields (core_of c.args.p.now) (core_of c.short_for-w.new.p) c.args.s.0 c.args.at.place c.args.i c.short_for-w.ensures.held.step c.requires.there
    ∙ ap (λ (w : ℕ). slice_set (pointers ((core_of c.args.p.now).entries c.args.s.0).kind ((core_of c.args.p.now).chunks c.args.at.place).words) c.args.i w) (sym c.if-w-ne0.false)
