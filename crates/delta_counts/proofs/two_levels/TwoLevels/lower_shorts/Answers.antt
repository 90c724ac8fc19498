use Rattle.std.proofs.Common.{refl}
use Rattle.delta_counts.proofs.DrainLaws.{counting-giving}
use Rattle.delta_counts.proofs.PartLaws.{counting-names, counting-trans}
use Rattle.delta_counts.proofs.EffectLaws.{names-of, given-whole, lowered-keeps, lowered-leaves}
use Rattle.delta_counts.proofs.ShortLaws.{hand-first, hand-rest}
use Rattle.delta_counts.proofs.two_levels.TwoLevels.lower_shorts.Goals as goal

pub lower_short-requires-clause-names : goal.lower_short-requires-clause-names
lower_short-requires-clause-names g c = names-of c.args.self.now.parts c.args.self.now.whole.parts

pub lower_short-requires-clause-used : goal.lower_short-requires-clause-used
lower_short-requires-clause-used g c = hand-first c.args.self.now.parts.names c.args.class.0 c.args.words.now c.requires.hand

pub lower_shorts-requires-clause-names : goal.lower_shorts-requires-clause-names
lower_shorts-requires-clause-names g c = counting-names c.args.self.now.parts.names c.lower_short.new.p c.lower_short.ensures.counting (names-of c.args.self.now.parts c.args.self.now.whole.parts)

pub lower_shorts-requires-clause-used : goal.lower_shorts-requires-clause-used
lower_shorts-requires-clause-used g c = hand-rest c.args.self.now.parts.names c.lower_short.new.p c.args.class.0 c.args.words.now c.lower_short.ensures.counting c.requires.hand

pub invariant_of-self : goal.invariant_of-self
invariant_of-self g c =
    let p = c.args.self.now.parts in
    record {
      whole = given-whole p (record { segment = p.segment; names = c.lower_shorts.new.p }) c.args.self.now.whole refl
          (counting-giving p.names c.lower_shorts.new.p (counting-trans p.names c.lower_short.new.p c.lower_shorts.new.p c.lower_short.ensures.counting c.lower_shorts.ensures.counting));
    }

pub returns-clause-leaves : goal.returns-clause-leaves
returns-clause-leaves g c =
    let p = c.args.self.now.parts in
    lowered-leaves c.args.self.now _ refl refl (counting-trans p.names c.lower_short.new.p c.lower_shorts.new.p c.lower_short.ensures.counting c.lower_shorts.ensures.counting)

pub returns-clause-keeps : goal.returns-clause-keeps
returns-clause-keeps g c =
    let p = c.args.self.now.parts in
    let first = c.lower_short.ensures in
    let last = c.lower_shorts.ensures in
    lowered-keeps c.args.self.now _ c.lower_short.new.p c.args.class.0 c.args.words.now refl refl first.counting last.counting first.lowered last.lowered
