use Rattle.std.proofs.Common.{◌≡◌, ℕ, refl, sym, ◌∙◌, ap, subst, arith}
use Rattle.std.proofs.lemmas.Option.{slice_get_within}
use Rattle.std.specs.List.{slice_get}
use Rattle.object_table.specs.declared.entry.Entry.{Entry}
use Rattle.core_segment.specs.Chunks.{with_word}
use Rattle.core_view.specs.Words.{spot}
use Rattle.core_view.specs.Kept.{IsCore}
use Rattle.core_view.specs.Steps.{with_field_word}
use Rattle.core_view.proofs.Core.{placed-used}
use Rattle.core_view.proofs.Steps.{outside-more}
use Rattle.core_view.proofs.Words.{word-core}
use Rattle.core_segment.specs.Segment.{chunk_at}
use Rattle.leaf_lambda.specs.Parts.{core_of}
use Rattle.leaf_lambda.proofs.StepLaws.{core-is}
use Rattle.leaf_lambda.proofs.WordLaws.{spot-get, at-small}
use Rattle.leaf_lambda.proofs.steps.store_word.Goals as goal

pub used_entry-kind-requires : goal.used_entry-kind-requires
unfolding core_of
used_entry-kind-requires c = placed-used ((core_of c.args.p.now).entries c.args.s.0).state c.args.at.place c.requires.there.1.place

pub spot_of-requires : goal.spot_of-requires
spot_of-requires c = let small = at-small (core_of c.args.p.now) c.args.s.0 c.args.at.place c.args.i c.requires.there.0 c.requires.parts.core c.requires.there.1 in omega arith

spot-is : (c : goal.After-spot_of) → c.spot_of.result ≡ spot ((core_of c.args.p.now).entries c.args.s.0).kind c.args.i
unfolding core_of
spot-is c = c.spot_of.ensures ∙ ap (λ (e : Entry). spot e.kind c.args.i) c.used_entry-kind.ensures

pub set_word-requires : goal.set_word-requires
unfolding core_of
set_word-requires c = slice_get_within (chunk_at c.args.p.now.segment c.args.at.place).words c.spot_of.result c.requires.there.0
    (ap (λ (i : ℕ). slice_get (chunk_at c.args.p.now.segment c.args.at.place).words i) (spot-is c) ∙ spot-get ((core_of c.args.p.now).entries c.args.s.0).kind (chunk_at c.args.p.now.segment c.args.at.place).words c.args.i c.requires.there.0 c.requires.there.1.word)

pub returns-clause-core : goal.returns-clause-core
unfolding core_of
returns-clause-core c = core-is _ (with_field_word (core_of c.args.p.now) c.args.s.0 c.args.at.place c.args.i c.args.w) refl refl
    (c.set_word.ensures.chunks ∙ ap (λ (i : ℕ). with_word (chunk_at c.args.p.now.segment) c.args.at.place i c.args.w) (c.spot_of.ensures ∙ ap (λ (e : Entry). spot e.kind c.args.i) c.used_entry-kind.ensures)) refl

pub returns-clause-parts : goal.returns-clause-parts
returns-clause-parts c = record {
  core = subst IsCore (sym (returns-clause-core c)) (word-core (core_of c.args.p.now) c.args.s.0 c.args.at.place c.args.i c.args.w c.requires.there.0 c.requires.parts.core c.requires.there.1 (λ is. outside-more (core_of c.args.p.now) c.args.w c.requires.parts.core (c.requires.held is)));
  room = c.requires.parts.room;
}
