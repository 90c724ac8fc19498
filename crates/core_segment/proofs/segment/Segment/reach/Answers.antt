use Rattle.core_segment.specs.Words.{filled_of, words_of}
use Rattle.std.proofs.Common.{[], List, refl, sym, ap, subst, arith}
use Rattle.core_segment.specs.Lists.{Tile, Leads}
use Rattle.core_segment.specs.Layout.{placed_in, tiles_of, largest_in}
use Rattle.core_segment.specs.Order.{falling}
use Rattle.core_segment.specs.Segment.{chunks_of, size_of, free_of, largest_of}
use Rattle.core_segment.proofs.RelistLaws.{laid-tiled, retiled, relaid}
use Rattle.core_segment.specs.Chunks.{at_place}
use Rattle.core_segment.proofs.FilledLaws.{below-same}
use Rattle.core_segment.proofs.segment.Segment.reach.Goals as goal

pub thread-last-requires : goal.thread-last-requires
thread-last-requires c = let g = c.args.self.now in laid-tiled (words_of g.region) g.lists.firsts (tiles_of (words_of g.region)) g.free g.whole

pub rise-self-requires-clause-tiled : goal.rise-self-requires-clause-tiled
rise-self-requires-clause-tiled c =
    let g = c.args.self.now in
    (retiled (words_of g.region) (words_of c.thread-last.new.region) (tiles_of (words_of g.region))
    (laid-tiled (words_of g.region) g.lists.firsts (tiles_of (words_of g.region)) g.free g.whole) c.thread-last.ensures.relinked).tiled

pub rise-self-requires-clause-threaded : goal.rise-self-requires-clause-threaded
rise-self-requires-clause-threaded c =
    let g = c.args.self.now in
    let again = retiled (words_of g.region) (words_of c.thread-last.new.region) (tiles_of (words_of g.region))
    (laid-tiled (words_of g.region) g.lists.firsts (tiles_of (words_of g.region)) g.free g.whole) c.thread-last.ensures.relinked in
    subst (λ (ts : List Tile). Leads (words_of c.thread-last.new.region) c.thread-last.result (falling ts [])) (sym again.is) c.thread-last.ensures.threaded

pub first_free-place-requires : goal.first_free-place-requires
first_free-place-requires c =
    let g = c.args.self.now in let region = (words_of c.rise-self.new.region) in
    let s = relaid (words_of g.region) (words_of c.thread-last.new.region) region g.lists.firsts c.rise-self.result.firsts g.free g.whole
    c.thread-last.ensures.relinked c.rise-self.ensures.relinked c.rise-self.ensures.ordered in
    laid-tiled region c.rise-self.result.firsts (tiles_of region) g.free s.whole

pub invariant_of-self : goal.invariant_of-self
invariant_of-self c =
    let g = c.args.self.now in let region = (words_of c.rise-self.new.region) in
    let s = relaid (words_of g.region) (words_of c.thread-last.new.region) region g.lists.firsts c.rise-self.result.firsts g.free g.whole
    c.thread-last.ensures.relinked c.rise-self.ensures.relinked c.rise-self.ensures.ordered in
    record {
      small = let same = s.same_size in let small = g.small in omega arith;
      whole = s.whole;
      filled = below-same (at_place (placed_in (words_of g.region) (tiles_of (words_of g.region)))) (at_place (placed_in region (tiles_of region)))
          (filled_of g.region) (filled_of c.rise-self.new.region) (ap at_place s.placed) g.filled
          (let a = c.thread-last.ensures.grown in let b = c.rise-self.ensures.grown in omega arith);
      going = (s.ordered, c.first_free-place.ensures);
    }

pub returns-clause-joined : goal.returns-clause-joined
unfolding chunks_of size_of free_of largest_of
returns-clause-joined c =
    let g = c.args.self.now in let region = (words_of c.rise-self.new.region) in
    let s = relaid (words_of g.region) (words_of c.thread-last.new.region) region g.lists.firsts c.rise-self.result.firsts g.free g.whole
    c.thread-last.ensures.relinked c.rise-self.ensures.relinked c.rise-self.ensures.ordered in
    record {
      chunks = s.placed;
      free = refl;
      largest = let e = ap largest_in s.is in omega arith;
      size = s.same_size;
    }
