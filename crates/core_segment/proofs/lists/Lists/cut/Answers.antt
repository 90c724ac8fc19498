use Rattle.core_segment.specs.Words.{words_of}
use Rattle.std.proofs.Common.{ℕ, ◌+◌, ◌-◌, subst, sym, arith}
use Rattle.std.specs.List.{slice_set}
use Rattle.core_segment.specs.Heads.{IsPaired}
use Rattle.core_segment.specs.Taking.{IsUnlisted}
use Rattle.core_segment.proofs.CutLaws.{unlisted-first, unlisted-later, spot-within, before-within}
use Rattle.core_segment.proofs.lists.Lists.cut.Goals as goal

pub link_at-next-requires : goal.link_at-next-requires
link_at-next-requires c =
    spot-within (words_of c.args.region.now) c.args.self.now.firsts c.args.spot.class c.args.spot.before c.args.spot.place c.requires.whole c.requires.spot

pub put_link-requires : goal.put_link-requires
put_link-requires c =
    before-within (words_of c.args.region.now) c.args.self.now.firsts c.args.spot.class c.args.spot.before c.args.spot.place c.requires.whole c.requires.spot (omega arith)

pub returns-then-spot-eq0-clause-unlisted : goal.returns-then-spot-eq0-clause-unlisted
returns-then-spot-eq0-clause-unlisted c =
    let region = (words_of c.args.region.now) in
    subst (λ (z : ℕ). IsUnlisted region region (slice_set c.args.self.now.firsts c.args.spot.class z) c.args.spot.place) (sym c.link_at-next.ensures)
    (unlisted-first region c.args.self.now.firsts c.args.spot.class c.args.spot.before c.args.spot.place c.requires.whole c.requires.spot c.if-spot-eq0.true c.args.self.now.many)

pub returns-else-spot-eq0-clause-unlisted : goal.returns-else-spot-eq0-clause-unlisted
returns-else-spot-eq0-clause-unlisted c =
    let region = (words_of c.args.region.now) in let region' = (words_of c.put_link.new.region) in
    unlisted-later region region' c.args.self.now.firsts c.args.spot.class c.args.spot.before c.args.spot.place c.requires.whole c.requires.spot (omega arith)
    (subst (λ (z : ℕ). IsPaired region region' (c.args.spot.before - 1 + 2) z) c.link_at-next.ensures c.put_link.ensures.link)
