use Rattle.std.proofs.Common.{◌≡◌, ℕ, sym, ◌∙◌, ap, arith}
use Rattle.std.proofs.lemmas.Option.{slice_get_within}
use Rattle.std.specs.List.{slice_get}
use Rattle.object_table.specs.declared.entry.Entry.{Entry}
use Rattle.core_view.specs.Words.{spot}
use Rattle.core_view.proofs.Core.{placed-used}
use Rattle.core_segment.specs.Segment.{chunk_at}
use Rattle.leaf_lambda.specs.Parts.{core_of}
use Rattle.leaf_lambda.proofs.WordLaws.{spot-get, get-spot, at-small}
use Rattle.leaf_lambda.proofs.steps.field_word.Goals as goal

pub used_entry-kind-requires : goal.used_entry-kind-requires
unfolding core_of
used_entry-kind-requires c = placed-used ((core_of c.args.p.now).entries c.args.s.0).state c.args.at.place c.requires.there.1.place

pub spot_of-requires : goal.spot_of-requires
spot_of-requires c = let small = at-small (core_of c.args.p.now) c.args.s.0 c.args.at.place c.args.i c.requires.there.0 c.requires.parts.core c.requires.there.1 in omega arith

spot-is : (c : goal.After-spot_of) → c.spot_of.result ≡ spot ((core_of c.args.p.now).entries c.args.s.0).kind c.args.i
unfolding core_of
spot-is c = c.spot_of.ensures ∙ ap (λ (e : Entry). spot e.kind c.args.i) c.used_entry-kind.ensures

pub word-requires : goal.word-requires
unfolding core_of
word-requires c = slice_get_within (chunk_at c.args.p.now.segment c.args.at.place).words c.spot_of.result c.requires.there.0
    (ap (λ (i : ℕ). slice_get (chunk_at c.args.p.now.segment c.args.at.place).words i) (spot-is c) ∙ spot-get ((core_of c.args.p.now).entries c.args.s.0).kind (chunk_at c.args.p.now.segment c.args.at.place).words c.args.i c.requires.there.0 c.requires.there.1.word)

pub returns : goal.returns
unfolding core_of
returns c = record {
  place = c.requires.there.1.place;
  word = get-spot ((core_of c.args.p.now).entries c.args.s.0).kind (chunk_at c.args.p.now.segment c.args.at.place).words c.args.i c.word.result c.requires.there.0 c.requires.there.1.word
      (ap (λ (i : ℕ). slice_get (chunk_at c.args.p.now.segment c.args.at.place).words i) (sym (c.spot_of.ensures ∙ ap (λ (e : Entry). spot e.kind c.args.i) c.used_entry-kind.ensures)) ∙ c.word.ensures);
}
