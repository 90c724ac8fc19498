use Rattle.core_segment.specs.Words.{words_of}
use Rattle.std.proofs.Common.{◌≡◌, refl, sym, arith}
use Rattle.core_segment.specs.Heads.{size_in}
use Rattle.core_segment.specs.Segment.{free_of}
use Rattle.core_segment.proofs.GapLaws.{gap-in, pair}
use Rattle.core_segment.proofs.JoinedLaws.{joined-none}
use Rattle.core_segment.proofs.segment.Segment.join.Goals as goal

pub size_at-gap-requires : goal.size_at-gap-requires
size_at-gap-requires c =
    let g = c.args.self.now in
    (gap-in (words_of g.region) g.lists.firsts g.free c.args.to (size_in (words_of g.region) c.args.to) g.reached g.whole g.going c.requires.reached c.requires.some refl).head

pub loop-gap-init : goal.loop-gap-init
loop-gap-init c =
    let g = c.args.self.now in
    let first = gap-in (words_of g.region) g.lists.firsts g.free c.args.to c.size_at-gap.result g.reached g.whole g.going c.requires.reached c.requires.some (sym c.size_at-gap.ensures) in
    record {
      joined = joined-none g;
      reached = c.requires.reached;
      gap = sym c.size_at-gap.ensures;
      few = let a = first.counted in omega arith;
    }

pub overflow_add-to : goal.overflow_add-to
overflow_add-to c =
    let g = c.loop-gap.self in let i = c.loop-gap.invariant in
    let p = pair (words_of g.region) g.lists.firsts g.free c.args.to c.loop-gap.gap g.reached g.whole g.going i.reached c.loop-gap-test.true i.gap in
    let low = p.next.low in let small = g.small in omega arith

pub owner_at-requires : goal.owner_at-requires
owner_at-requires c =
    let g = c.loop-gap.self in let i = c.loop-gap.invariant in
    let p = pair (words_of g.region) g.lists.firsts g.free c.args.to c.loop-gap.gap g.reached g.whole g.going i.reached c.loop-gap-test.true i.gap in
    p.next.head

pub loop-gap-smaller : goal.loop-gap-smaller
unfolding free_of
loop-gap-smaller c =
    let free : c.join_next-gap.new.self.free ≡ c.loop-gap.self.free = c.join_next-gap.ensures.joined.free in
    let more = c.join_next-gap.ensures.more in let few = c.join_next-gap.ensures.few in let t = c.loop-gap-test.true in
    omega arith
