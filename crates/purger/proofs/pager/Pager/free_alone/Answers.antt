use Rattle.std.proofs.Common.{[], ◌∷◌, refl, sym, subst, map}
use Rattle.object_table.specs.declared.entry.Entry.{Entry}
use Rattle.object_table.specs.Table.{entry_at}
use Rattle.core_view.proofs.Core.{placed-used}
use Rattle.leaf_lambda.specs.Parts.{core_of}
use Rattle.core_view.specs.Levels.{records_of}
use Rattle.delta_counts.specs.Effects.{Keeps, Same}
use Rattle.delta_counts.specs.Shorts.{AreAtHand, short_value}
use Rattle.purger.specs.Pager.{core_in}
use Rattle.purger.proofs.AloneLaws.{all-hand, all-same}
use Rattle.purger.proofs.DyingLaws.{took-frees}
use Rattle.purger.proofs.pager.Pager.free_alone.Goals as goal

pub used_entry-requires : goal.used_entry-requires
unfolding core_of
used_entry-requires g c = placed-used ((core_in c.args.self.now).entries c.args.s.0).state c.requires.may.body.0 c.requires.may.body.1

pub lower_shorts-requires : goal.lower_shorts-requires
unfolding core_of
lower_shorts-requires g c =
    let a = c.args.self.now in
    let m = c.requires.may in
    record {
      hand = subst (λ (e : Entry). AreAtHand c.take_out.new.self.levels.parts.names (e.class.0 ∷ c.args.words.now)) (sym c.used_entry.ensures)
          (all-hand (core_in a) c.take_out.new.self.levels.parts c.args.s.0 m.body.0 c.args.words.now a.levels.whole.parts.core m.body.1 m.none c.in_ok-take_out.ensures.takes.gone c.requires.fields c.requires.whole);
    }

pub returns-clause-frees : goal.returns-clause-frees
unfolding core_of
returns-clause-frees g c =
    let s = c.args.s.0 in
    let a = c.args.self.now in
    let b = c.take_out.new.self in
    let m = c.requires.may in
    let ws = c.args.words.now in
    let vs = map (short_value (entry_at b.levels.parts.names.table)) (((core_in a).entries s).class.0 ∷ ws) in
    took-frees s m.body.0 a b _ c.in_ok-take_out.field-0 _ vs m m.body.1 c.in_ok-take_out.ensures.takes
    (λ told t stands z. all-same (core_in a) b.levels.parts (records_of t) s m.body.0 ws a.levels.whole.parts.core m.body.1 m.none c.in_ok-take_out.ensures.takes.gone c.requires.fields c.requires.whole)
    refl c.lower_shorts.ensures.leaves
    (subst (λ (e : Entry). Keeps Same (map (short_value (entry_at b.levels.parts.names.table)) (e.class.0 ∷ ws)) [] b.levels c.lower_shorts.new.self) c.used_entry.ensures c.lower_shorts.ensures.keeps) tt
