use Rattle.core_segment.specs.Words.{words_of}
use Rattle.std.proofs.Common.{◌≡◌, List, length, ◌∙◌, ap, subst, arith}
use Rattle.std.specs.List.{sum_by}
use Rattle.core_segment.specs.Chunks.{Placed, at_place}
use Rattle.core_segment.specs.Segment.{chunk_at, work_of, size_of, free_of, largest_of, IsMove}
use Rattle.core_segment.specs.Layout.{tiles_of}
use Rattle.core_segment.proofs.GapLaws.{gap-in, gap-whole, within-in, none-in}
use Rattle.core_segment.proofs.JoinedLaws.{joined-then}
use Rattle.core_segment.proofs.segment.Segment.compact_step.Goals as goal

-- nothing is free
pub returns-then-to-self-clause-none : goal.returns-then-to-self-clause-none
unfolding largest_of free_of chunk_at
returns-then-to-self-clause-none c =
    let g = c.reach-to.new.self in (
      none-in (words_of g.region) g.lists.firsts g.free c.reach-to.result g.reached g.whole g.going c.reach-to.ensures.reached (c.if-to-self.true ∙ g.region.sized),
      ap at_place c.reach-to.ensures.joined.chunks,
    )

pub join-gap-requires-clause-some : goal.join-gap-requires-clause-some
join-gap-requires-clause-some c =
    let g = c.reach-to.new.self in
    let low = within-in (words_of g.region) g.lists.firsts g.free c.reach-to.result g.reached g.whole g.going c.reach-to.ensures.reached in
    let f = c.if-to-self.false in let size = g.region.sized in
    omega arith

-- all free words are one chunk
pub returns-then-gap-self-clause-none : goal.returns-then-gap-self-clause-none
unfolding largest_of free_of size_of chunk_at
returns-then-gap-self-clause-none c =
    let g = c.reach-to.new.self in let h = c.join-gap.new.self in
    let low = within-in (words_of g.region) g.lists.firsts g.free c.reach-to.result g.reached g.whole g.going c.reach-to.ensures.reached in
    let f = c.if-to-self.false in let size = g.region.sized in
    let same : length (words_of h.region) ≡ length (words_of g.region) = c.join-gap.ensures.joined.size in
    let gap = gap-in (words_of h.region) h.lists.firsts h.free c.reach-to.result c.join-gap.result h.reached h.whole h.going c.join-gap.ensures.reached (omega arith) c.join-gap.ensures.gap in (
      gap-whole (words_of h.region) h.lists.firsts (tiles_of (words_of h.region)) h.free c.reach-to.result c.join-gap.result gap c.if-gap-self.true,
      ap at_place (joined-then c.args.self.now g h c.reach-to.ensures.joined c.join-gap.ensures.joined).chunks,
    )

pub returns-clause-moved : goal.returns-clause-moved
unfolding chunk_at
returns-clause-moved c =
    let joined = joined-then c.args.self.now c.reach-to.new.self c.join-gap.new.self c.reach-to.ensures.joined c.join-gap.ensures.joined in
    subst (λ (cs : List Placed). IsMove (at_place cs) (chunk_at c.move_down.new.self) c.move_down.result) joined.chunks c.move_down.ensures.moved

pub returns-clause-less : goal.returns-clause-less
unfolding work_of
returns-clause-less c =
    let joined = joined-then c.args.self.now c.reach-to.new.self c.join-gap.new.self c.reach-to.ensures.joined c.join-gap.ensures.joined in
    let same = ap (sum_by (λ (p : Placed). p.place)) joined.chunks in
    let less = c.move_down.ensures.less in
    omega arith
