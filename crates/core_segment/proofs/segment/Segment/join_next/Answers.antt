use Rattle.core_segment.specs.Words.{filled_of, words_of}
use Rattle.std.proofs.Common.{ℕ, ◌≡◌, ◌+◌, List, length, refl, sym, ◌∙◌, ap, subst, arith}
use Rattle.core_segment.specs.Heads.{size_in, owner_in, link_in, IsClosed}
use Rattle.core_segment.specs.Lists.{class_in, first_in, with_first}
use Rattle.core_segment.specs.Layout.{placed_in, tiles_of}
use Rattle.core_segment.specs.Order.{IsGoingOn}
use Rattle.core_segment.specs.Segment.{chunks_of, size_of, free_of, largest_of}
use Rattle.core_segment.proofs.GapLaws.{IsWidened, IsPair, pair, widened}
use Rattle.core_segment.specs.Chunks.{at_place}
use Rattle.core_segment.proofs.FilledLaws.{below-same}
use Rattle.core_segment.proofs.segment.Segment.join_next.Goals as goal

-- the second is joined to the first
joins : (region region' firsts f1 f2 f3 : List ℕ) (free to gap more : ℕ) (p : IsPair region firsts free to gap) → owner_in region (to + gap) ≡ 0 → length firsts ≡ 66
    → more ≡ size_in region (to + gap) → f1 ≡ with_first firsts gap (link_in region to) → f2 ≡ with_first f1 more (link_in region (to + gap))
    → IsClosed region region' to (gap + more) (first_in f2 (class_in (gap + more))) → f3 ≡ with_first f2 (gap + more) (to + 1) → IsWidened region region' f3 (tiles_of region) free to (gap + more)
joins region region' firsts f1 f2 f3 free to gap more p none many size one two closed three =
    let m = p.next in
    let same : more ≡ m.tile.size = size ∙ m.sized in
    let second : f2 ≡ with_first (with_first firsts gap (link_in region to)) m.tile.size (link_in region (to + gap)) =
    two ∙ ap (λ (fs : List ℕ). with_first fs more (link_in region (to + gap))) one ∙ ap (λ (z : ℕ). with_first (with_first firsts gap (link_in region to)) z (link_in region (to + gap))) same in
    let third : with_first (with_first (with_first firsts gap (link_in region to)) m.tile.size (link_in region (to + gap))) (gap + m.tile.size) (to + 1) ≡ f3 =
    sym (three ∙ ap (λ (fs : List ℕ). with_first fs (gap + more) (to + 1)) second
    ∙ ap (λ (z : ℕ). with_first (with_first (with_first firsts gap (link_in region to)) m.tile.size (link_in region (to + gap))) (gap + z) (to + 1)) same) in
    let wide = widened region region' firsts (tiles_of region) free to gap p.first m many (sym m.owned ∙ none)
    (subst (λ (fs : List ℕ). IsClosed region region' to (gap + m.tile.size) (first_in fs (class_in (gap + m.tile.size)))) second
    (subst (λ (z : ℕ). IsClosed region region' to (gap + z) (first_in f2 (class_in (gap + z)))) same closed)) in
    subst (λ (z : ℕ). IsWidened region region' f3 (tiles_of region) free to (gap + z)) (sym same)
    (subst (λ (fs : List ℕ). IsWidened region region' fs (tiles_of region) free to (gap + m.tile.size)) third wide)

pub overflow_add-from : goal.overflow_add-from
overflow_add-from c =
    let g = c.args.self.now in
    let p = pair (words_of g.region) g.lists.firsts g.free c.args.to c.args.gap g.reached g.whole g.going c.requires.reached c.requires.many c.requires.gap in
    let low = p.next.low in let small = g.small in omega arith

pub size_at-more-requires : goal.size_at-more-requires
size_at-more-requires c =
    let g = c.args.self.now in
    let p = pair (words_of g.region) g.lists.firsts g.free c.args.to c.args.gap g.reached g.whole g.going c.requires.reached c.requires.many c.requires.gap in
    p.next.head

pub overflow_add-size : goal.overflow_add-size
overflow_add-size c =
    let g = c.args.self.now in
    let p = pair (words_of g.region) g.lists.firsts g.free c.args.to c.args.gap g.reached g.whole g.going c.requires.reached c.requires.many c.requires.gap in
    let low = p.next.low in let small = g.small in let is = c.size_at-more.ensures in let size = p.next.sized in omega arith

pub leave-requires : goal.leave-requires
leave-requires c =
    let g = c.args.self.now in
    let p = pair (words_of g.region) g.lists.firsts g.free c.args.to c.args.gap g.reached g.whole g.going c.requires.reached c.requires.many c.requires.gap in
    λ some. let low = p.first.low in omega arith

pub leave-requires-2 : goal.leave-requires-2
leave-requires-2 c =
    let g = c.args.self.now in
    let p = pair (words_of g.region) g.lists.firsts g.free c.args.to c.args.gap g.reached g.whole g.going c.requires.reached c.requires.many c.requires.gap in
    λ some. let low = p.next.low in let is = c.size_at-more.ensures in let size = p.next.sized in omega arith

pub push-requires-clause-within : goal.push-requires-clause-within
push-requires-clause-within c =
    let g = c.args.self.now in
    let p = pair (words_of g.region) g.lists.firsts g.free c.args.to c.args.gap g.reached g.whole g.going c.requires.reached c.requires.many c.requires.gap in
    let low = p.next.low in let is = c.size_at-more.ensures in let size = p.next.sized in omega arith

pub push-requires-clause-some : goal.push-requires-clause-some
push-requires-clause-some c =
    let g = c.args.self.now in
    let p = pair (words_of g.region) g.lists.firsts g.free c.args.to c.args.gap g.reached g.whole g.going c.requires.reached c.requires.many c.requires.gap in
    let some = p.first.some in omega arith

pub invariant_of-self : goal.invariant_of-self
invariant_of-self c =
    let g = c.args.self.now in
    let p = pair (words_of g.region) g.lists.firsts g.free c.args.to c.args.gap g.reached g.whole g.going c.requires.reached c.requires.many c.requires.gap in
    let w = joins (words_of g.region) (words_of c.push.new.region) g.lists.firsts c.leave.new.self.firsts c.leave-2.new.self.firsts c.push.new.self.firsts
    g.free c.args.to c.args.gap c.size_at-more.result p c.requires.free g.lists.many c.size_at-more.ensures c.leave.ensures c.leave-2.ensures c.push.ensures.closed c.push.ensures.firsts in
    record {
      small = let same = w.same_size in let small = g.small in omega arith;
      whole = w.whole;
      filled = below-same (at_place (placed_in (words_of g.region) (tiles_of (words_of g.region)))) (at_place (placed_in (words_of c.push.new.region) (tiles_of (words_of c.push.new.region))))
          (filled_of g.region) (filled_of c.push.new.region) (ap at_place w.placed) g.filled c.push.ensures.grown;
      going = subst (IsGoingOn (words_of c.push.new.region) c.push.new.self.firsts (tiles_of (words_of c.push.new.region))) (sym c.requires.reached) w.going;
    }

pub returns-clause-joined : goal.returns-clause-joined
unfolding chunks_of size_of free_of largest_of
returns-clause-joined c =
    let g = c.args.self.now in
    let p = pair (words_of g.region) g.lists.firsts g.free c.args.to c.args.gap g.reached g.whole g.going c.requires.reached c.requires.many c.requires.gap in
    let w = joins (words_of g.region) (words_of c.push.new.region) g.lists.firsts c.leave.new.self.firsts c.leave-2.new.self.firsts c.push.new.self.firsts
    g.free c.args.to c.args.gap c.size_at-more.result p c.requires.free g.lists.many c.size_at-more.ensures c.leave.ensures c.leave-2.ensures c.push.ensures.closed c.push.ensures.firsts in
    record { chunks = w.placed; free = refl; largest = w.largest; size = w.same_size }

pub returns-clause-gap : goal.returns-clause-gap
returns-clause-gap c = c.push.ensures.closed.sized

pub returns-clause-more : goal.returns-clause-more
returns-clause-more c =
    let g = c.args.self.now in
    let p = pair (words_of g.region) g.lists.firsts g.free c.args.to c.args.gap g.reached g.whole g.going c.requires.reached c.requires.many c.requires.gap in
    let some = p.next.some in let is = c.size_at-more.ensures in let size = p.next.sized in omega arith

pub returns-clause-few : goal.returns-clause-few
returns-clause-few c =
    let g = c.args.self.now in
    let p = pair (words_of g.region) g.lists.firsts g.free c.args.to c.args.gap g.reached g.whole g.going c.requires.reached c.requires.many c.requires.gap in
    let w = joins (words_of g.region) (words_of c.push.new.region) g.lists.firsts c.leave.new.self.firsts c.leave-2.new.self.firsts c.push.new.self.firsts
    g.free c.args.to c.args.gap c.size_at-more.result p c.requires.free g.lists.many c.size_at-more.ensures c.leave.ensures c.leave-2.ensures c.push.ensures.closed c.push.ensures.firsts in
    w.few
