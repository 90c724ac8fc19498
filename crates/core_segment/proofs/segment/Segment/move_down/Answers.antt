use Rattle.core_segment.specs.Words.{filled_of, words_of}
use Rattle.std.proofs.Common.{ℕ, ◌≡◌, ◌+◌, ◌<◌, List, length, refl, sym, ◌∙◌, ap, subst, arith}
use Rattle.std.proofs.Math.Path.{fun_ext}
use Rattle.core_segment.specs.Heads.{size_in, owner_in, link_in, IsClosed, IsMovedDown}
use Rattle.core_segment.specs.Lists.{class_in, first_in, with_first}
use Rattle.core_segment.specs.Layout.{tiles_of}
use Rattle.core_segment.specs.Segment.{chunks_of, chunk_at, work_of, size_of, free_of, largest_of}
use Rattle.core_segment.proofs.GapLaws.{IsPair, pair, gap-part}
use Rattle.core_segment.proofs.MoveLaws.{IsMovedTile, moved-down}
use Rattle.core_segment.proofs.PlaceLaws.{chunk}
use Rattle.core_segment.proofs.FilledLaws.{below-moved, pair-below}
use Rattle.core_segment.proofs.segment.Segment.move_down.Goals as goal

-- the second is moved over the first
moves : (region region' region'' firsts f1 f2 : List ℕ) (free to gap size owner : ℕ) (p : IsPair region firsts free to gap) → 0 < owner_in region (to + gap) → length firsts ≡ 66
    → size ≡ size_in region (to + gap) → owner ≡ owner_in region (to + gap) → f1 ≡ with_first firsts gap (link_in region to) → IsMovedDown region region' (to + gap) to size
    → IsClosed region' region'' (to + size) gap (first_in f1 (class_in gap)) → f2 ≡ with_first f1 gap (to + size + 1) → IsMovedTile region region'' f2 (tiles_of region) free (to + gap) to size owner
moves region region' region'' firsts f1 f2 free to gap size owner p own many sized owned one shifted closed two =
    let m = p.next in
    let a : size ≡ m.tile.size = sized ∙ m.sized in
    let b : owner ≡ m.tile.owner = owned ∙ m.owned in
    let is = m.owned in
    subst (λ (fs : List ℕ). IsMovedTile region region'' fs (tiles_of region) free (to + gap) to size owner) (sym (two ∙ ap (λ (fs : List ℕ). with_first fs gap (to + size + 1)) one))
    (subst (λ (z : ℕ). IsMovedTile region region'' (with_first (with_first firsts gap (link_in region to)) gap (to + z + 1)) (tiles_of region) free (to + gap) to z owner) (sym a)
    (subst (λ (z : ℕ). IsMovedTile region region'' (with_first (with_first firsts gap (link_in region to)) gap (to + m.tile.size + 1)) (tiles_of region) free (to + gap) to m.tile.size z) (sym b)
    (moved-down region region' region'' firsts (tiles_of region) free to gap p.first m many (omega arith)
    (subst (IsMovedDown region region' (to + gap) to) a shifted)
    (subst (λ (fs : List ℕ). IsClosed region' region'' (to + m.tile.size) gap (first_in fs (class_in gap))) one
    (subst (λ (z : ℕ). IsClosed region' region'' (to + z) gap (first_in f1 (class_in gap))) a closed)))))

pub overflow_add-from : goal.overflow_add-from
overflow_add-from c =
    let g = c.args.self.now in
    let p = pair (words_of g.region) g.lists.firsts g.free c.args.to c.args.gap g.reached g.whole g.going c.requires.reached c.requires.many c.requires.gap in
    let low = p.next.low in let small = g.small in omega arith

pub owner_at-owner-requires : goal.owner_at-owner-requires
owner_at-owner-requires c =
    let g = c.args.self.now in
    let p = pair (words_of g.region) g.lists.firsts g.free c.args.to c.args.gap g.reached g.whole g.going c.requires.reached c.requires.many c.requires.gap in
    p.next.head

pub size_at-size-requires : goal.size_at-size-requires
size_at-size-requires c =
    let g = c.args.self.now in
    let p = pair (words_of g.region) g.lists.firsts g.free c.args.to c.args.gap g.reached g.whole g.going c.requires.reached c.requires.many c.requires.gap in
    p.next.head

pub leave-requires : goal.leave-requires
leave-requires c =
    let g = c.args.self.now in
    let p = pair (words_of g.region) g.lists.firsts g.free c.args.to c.args.gap g.reached g.whole g.going c.requires.reached c.requires.many c.requires.gap in
    λ some. let low = p.first.low in omega arith

pub shift-requires-clause-written : goal.shift-requires-clause-written
shift-requires-clause-written c =
    let g = c.args.self.now in
    let p = pair (words_of g.region) g.lists.firsts g.free c.args.to c.args.gap g.reached g.whole g.going c.requires.reached c.requires.many c.requires.gap in
    let own = c.requires.used in
    let owned = p.next.owned in
    let low = pair-below (words_of g.region) g.lists.firsts (tiles_of (words_of g.region)) g.free c.args.to c.args.gap (filled_of g.region) p.first p.next (omega arith) g.filled in
    let is = c.size_at-size.ensures in let size = p.next.sized in omega arith

pub overflow_add-to : goal.overflow_add-to
overflow_add-to c =
    let g = c.args.self.now in
    let p = pair (words_of g.region) g.lists.firsts g.free c.args.to c.args.gap g.reached g.whole g.going c.requires.reached c.requires.many c.requires.gap in
    let low = p.next.low in let is = c.size_at-size.ensures in let size = p.next.sized in let small = g.small in omega arith

pub push-requires-clause-within : goal.push-requires-clause-within
push-requires-clause-within c =
    let g = c.args.self.now in
    let p = pair (words_of g.region) g.lists.firsts g.free c.args.to c.args.gap g.reached g.whole g.going c.requires.reached c.requires.many c.requires.gap in
    let low = p.next.low in let is = c.size_at-size.ensures in let size = p.next.sized in let same = c.shift.ensures.moved.same_size in omega arith

pub push-requires-clause-some : goal.push-requires-clause-some
push-requires-clause-some c =
    let g = c.args.self.now in
    let p = pair (words_of g.region) g.lists.firsts g.free c.args.to c.args.gap g.reached g.whole g.going c.requires.reached c.requires.many c.requires.gap in
    p.first.some

pub invariant_of-self : goal.invariant_of-self
invariant_of-self c =
    let g = c.args.self.now in
    let p = pair (words_of g.region) g.lists.firsts g.free c.args.to c.args.gap g.reached g.whole g.going c.requires.reached c.requires.many c.requires.gap in
    let s = moves (words_of g.region) (words_of c.shift.new.self) (words_of c.push.new.region) g.lists.firsts c.leave.new.self.firsts c.push.new.self.firsts g.free c.args.to c.args.gap
    c.size_at-size.result c.owner_at-owner.result p c.requires.used g.lists.many c.size_at-size.ensures c.owner_at-owner.ensures c.leave.ensures c.shift.ensures.moved c.push.ensures.closed c.push.ensures.firsts in
    record {
      small = let same = s.same_size in let small = g.small in omega arith;
      whole = s.whole;
      filled = below-moved (chunk (words_of g.region) (tiles_of (words_of g.region))) (chunk (words_of c.push.new.region) (tiles_of (words_of c.push.new.region)))
          (filled_of g.region) (filled_of c.push.new.region) (c.args.to + c.args.gap) c.args.to (fun_ext s.moved) g.filled
          (let same = c.shift.ensures.filled in let more = c.push.ensures.grown in omega arith) (let some = p.first.some in omega arith);
      going = s.going;
    }

pub returns-clause-moved : goal.returns-clause-moved
unfolding chunk_at chunks_of
returns-clause-moved c =
    let g = c.args.self.now in
    let p = pair (words_of g.region) g.lists.firsts g.free c.args.to c.args.gap g.reached g.whole g.going c.requires.reached c.requires.many c.requires.gap in
    let s = moves (words_of g.region) (words_of c.shift.new.self) (words_of c.push.new.region) g.lists.firsts c.leave.new.self.firsts c.push.new.self.firsts g.free c.args.to c.args.gap
    c.size_at-size.result c.owner_at-owner.result p c.requires.used g.lists.many c.size_at-size.ensures c.owner_at-owner.ensures c.leave.ensures c.shift.ensures.moved c.push.ensures.closed c.push.ensures.firsts in
    record {
      from = c.args.to + c.args.gap;
      down = let some = p.first.some in omega arith;
      used = let a = c.requires.used in let b = c.owner_at-owner.ensures in omega arith;
      owner = s.owner-was;
      vacant = s.vacant;
      moved = fun_ext s.moved;
    }

pub returns-clause-many : goal.returns-clause-many
unfolding largest_of free_of
returns-clause-many c =
    let g = c.args.self.now in
    let p = pair (words_of g.region) g.lists.firsts g.free c.args.to c.args.gap g.reached g.whole g.going c.requires.reached c.requires.many c.requires.gap in
    gap-part (words_of g.region) g.lists.firsts (tiles_of (words_of g.region)) g.free c.args.to c.args.gap p.first c.requires.many

pub returns-clause-less : goal.returns-clause-less
unfolding work_of chunks_of
returns-clause-less c =
    let g = c.args.self.now in
    let p = pair (words_of g.region) g.lists.firsts g.free c.args.to c.args.gap g.reached g.whole g.going c.requires.reached c.requires.many c.requires.gap in
    let s = moves (words_of g.region) (words_of c.shift.new.self) (words_of c.push.new.region) g.lists.firsts c.leave.new.self.firsts c.push.new.self.firsts g.free c.args.to c.args.gap
    c.size_at-size.result c.owner_at-owner.result p c.requires.used g.lists.many c.size_at-size.ensures c.owner_at-owner.ensures c.leave.ensures c.shift.ensures.moved c.push.ensures.closed c.push.ensures.firsts in
    s.less

pub returns-clause-free : goal.returns-clause-free
unfolding free_of
returns-clause-free c = refl

pub returns-clause-size : goal.returns-clause-size
unfolding size_of
returns-clause-size c = c.push.ensures.closed.same_size ∙ c.shift.ensures.moved.same_size
