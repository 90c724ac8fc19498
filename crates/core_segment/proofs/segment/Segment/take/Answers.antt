use Rattle.core_segment.specs.Words.{filled_of, words_of}
use Rattle.std.proofs.Common.{ℕ, ◌+◌, ◌-◌, List, length, ap, sym, subst, ◌∙◌, arith}
use Rattle.std.proofs.Math.Path.{fun_ext}
use Rattle.core_segment.specs.Chunks.{Chunk}
use Rattle.core_segment.specs.Lists.{Tile}
use Rattle.core_segment.specs.Layout.{IsLaid, tiles_of, largest_in}
use Rattle.core_segment.specs.Segment.{chunks_of, chunk_at, size_of, free_of, largest_of}
use Rattle.core_segment.proofs.PlaceLaws.{chunk, chunk_in}
use Rattle.core_segment.proofs.TakenLaws.{used_tile}
use Rattle.core_segment.proofs.TakingLaws.{out, takes}
use Rattle.core_segment.proofs.WordLaws.{length-range}
use Rattle.core_segment.proofs.FilledLaws.{below-with}
use Rattle.core_segment.proofs.segment.Segment.take.Goals as goal

pub carve-requires-clause-head : goal.carve-requires-clause-head
carve-requires-clause-head c =
    let g = c.args.self.now in
    (out (words_of g.region) (words_of c.cut.new.region) g.lists.firsts c.cut.new.self.firsts g.free c.in_ok-spot.spot.place g.whole c.cut.ensures.unlisted).head

pub carve-requires-clause-within : goal.carve-requires-clause-within
carve-requires-clause-within c =
    let g = c.args.self.now in
    let is = out (words_of g.region) (words_of c.cut.new.region) g.lists.firsts c.cut.new.self.firsts g.free c.in_ok-spot.spot.place g.whole c.cut.ensures.unlisted in
    let a = is.sized in let b = is.low in omega arith

pub carve-requires-clause-enough : goal.carve-requires-clause-enough
carve-requires-clause-enough c =
    let g = c.args.self.now in
    let is = out (words_of g.region) (words_of c.cut.new.region) g.lists.firsts c.cut.new.self.firsts g.free c.in_ok-spot.spot.place g.whole c.cut.ensures.unlisted in
    let enough = c.in_ok-spot.ensures.enough in let a = is.sized in let b = is.was in omega arith

pub overflow_sub-self : goal.overflow_sub-self
overflow_sub-self c =
    let g = c.args.self.now in
    let t = takes (words_of g.region) g.lists.firsts (words_of c.cut.new.region) c.cut.new.self.firsts (words_of c.carve.new.region) c.carve.new.self.firsts c.in_ok-spot.spot.place
    c.args.owner c.args.words g.free g.whole c.cut.ensures.unlisted c.cut.new.self.many c.carve.ensures.carved c.requires.owner c.requires.some c.in_ok-spot.ensures.enough in
    t.fits

pub overflow_add-spot : goal.overflow_add-spot
overflow_add-spot c =
    let g = c.args.self.now in
    let t = takes (words_of g.region) g.lists.firsts (words_of c.cut.new.region) c.cut.new.self.firsts (words_of c.carve.new.region) c.carve.new.self.firsts c.in_ok-spot.spot.place
    c.args.owner c.args.words g.free g.whole c.cut.ensures.unlisted c.cut.new.self.many c.carve.ensures.carved c.requires.owner c.requires.some c.in_ok-spot.ensures.enough in
    let low = t.low in let small = g.small in omega arith

pub overflow_sub-spot : goal.overflow_sub-spot
overflow_sub-spot c = let some = c.requires.some in omega arith

pub reach-requires : goal.reach-requires
reach-requires c =
    let g = c.args.self.now in
    let t = takes (words_of g.region) g.lists.firsts (words_of c.cut.new.region) c.cut.new.self.firsts (words_of c.carve.new.region) c.carve.new.self.firsts c.in_ok-spot.spot.place
    c.args.owner c.args.words g.free g.whole c.cut.ensures.unlisted c.cut.new.self.many c.carve.ensures.carved c.requires.owner c.requires.some c.in_ok-spot.ensures.enough in
    let low = t.low in let same = t.same_size in let some = c.requires.some in omega arith

pub invariant_of-self : goal.invariant_of-self
invariant_of-self c =
    let g = c.args.self.now in
    let t = takes (words_of g.region) g.lists.firsts (words_of c.cut.new.region) c.cut.new.self.firsts (words_of c.carve.new.region) c.carve.new.self.firsts c.in_ok-spot.spot.place
    c.args.owner c.args.words g.free g.whole c.cut.ensures.unlisted c.cut.new.self.many c.carve.ensures.carved c.requires.owner c.requires.some c.in_ok-spot.ensures.enough in
    let region' = (words_of c.carve.new.region) in
    let p = c.in_ok-spot.spot.place in
    record {
      small = let small = g.small in let same = t.same_size in let end = ap (λ (l : List ℕ). length l) c.reach.ensures.same in omega arith;
      whole = subst (λ (l : List ℕ). IsLaid l c.carve.new.self.firsts (tiles_of l) (g.free - c.args.words)) (sym c.reach.ensures.same) t.renew.whole;
      filled = below-with (chunk (words_of g.region) (tiles_of (words_of g.region))) (chunk (words_of c.reach.new.self) (tiles_of (words_of c.reach.new.self)))
          (filled_of g.region) (filled_of c.reach.new.self) p (chunk_in region' (used_tile p c.args.words c.args.owner))
          (fun_ext (λ k. ap (λ (l : List ℕ). chunk l (tiles_of l) k) c.reach.ensures.same ∙ ap (λ (us : List Tile). chunk region' us k) t.renew.is ∙ t.chunks k)) g.filled
          (let a = c.cut.ensures.grown in let b = c.carve.ensures.grown in let d = c.reach.ensures.grown in omega arith)
          (λ own.
          let some = c.requires.some in let low = t.low in let same = t.same_size in let end = c.reach.ensures.written in
          omega (arith, length-range region' (p + 4) (p + c.args.words) (omega arith)));
      going = tt;
    }

pub returns-clause-taken : goal.returns-clause-taken
unfolding chunk_at chunks_of
returns-clause-taken c =
    let g = c.args.self.now in
    let t = takes (words_of g.region) g.lists.firsts (words_of c.cut.new.region) c.cut.new.self.firsts (words_of c.carve.new.region) c.carve.new.self.firsts c.in_ok-spot.spot.place
    c.args.owner c.args.words g.free g.whole c.cut.ensures.unlisted c.cut.new.self.many c.carve.ensures.carved c.requires.owner c.requires.some c.in_ok-spot.ensures.enough in
    let region' = (words_of c.carve.new.region) in
    let p = c.in_ok-spot.spot.place in
    record {
      text = (chunk_in region' (used_tile p c.args.words c.args.owner)).words;
      size = let some = c.requires.some in let low = t.low in let same = t.same_size in omega (arith, length-range region' (p + 4) (p + c.args.words) (omega arith));
      vacant = ap (λ (x : Chunk). x.owner) t.vacant;
      chunks = fun_ext (λ k. ap (λ (l : List ℕ). chunk l (tiles_of l) k) c.reach.ensures.same ∙ ap (λ (us : List Tile). chunk region' us k) t.renew.is ∙ t.chunks k);
    }

pub returns-clause-free : goal.returns-clause-free
unfolding free_of
returns-clause-free c =
    let g = c.args.self.now in
    let t = takes (words_of g.region) g.lists.firsts (words_of c.cut.new.region) c.cut.new.self.firsts (words_of c.carve.new.region) c.carve.new.self.firsts c.in_ok-spot.spot.place
    c.args.owner c.args.words g.free g.whole c.cut.ensures.unlisted c.cut.new.self.many c.carve.ensures.carved c.requires.owner c.requires.some c.in_ok-spot.ensures.enough in
    let fits = t.fits in omega arith

pub returns-clause-room : goal.returns-clause-room
unfolding largest_of
returns-clause-room c =
    let g = c.args.self.now in
    let t = takes (words_of g.region) g.lists.firsts (words_of c.cut.new.region) c.cut.new.self.firsts (words_of c.carve.new.region) c.carve.new.self.firsts c.in_ok-spot.spot.place
    c.args.owner c.args.words g.free g.whole c.cut.ensures.unlisted c.cut.new.self.many c.carve.ensures.carved c.requires.owner c.requires.some c.in_ok-spot.ensures.enough in
    t.room

pub returns-clause-largest : goal.returns-clause-largest
unfolding largest_of
returns-clause-largest c =
    let g = c.args.self.now in
    let t = takes (words_of g.region) g.lists.firsts (words_of c.cut.new.region) c.cut.new.self.firsts (words_of c.carve.new.region) c.carve.new.self.firsts c.in_ok-spot.spot.place
    c.args.owner c.args.words g.free g.whole c.cut.ensures.unlisted c.cut.new.self.many c.carve.ensures.carved c.requires.owner c.requires.some c.in_ok-spot.ensures.enough in
    let a = t.largest in let b = ap (λ (us : List Tile). largest_in us) t.renew.is in
    let d = ap (λ (l : List ℕ). largest_in (tiles_of l)) c.reach.ensures.same in omega arith

pub returns-clause-size : goal.returns-clause-size
unfolding size_of
returns-clause-size c =
    let g = c.args.self.now in
    let t = takes (words_of g.region) g.lists.firsts (words_of c.cut.new.region) c.cut.new.self.firsts (words_of c.carve.new.region) c.carve.new.self.firsts c.in_ok-spot.spot.place
    c.args.owner c.args.words g.free g.whole c.cut.ensures.unlisted c.cut.new.self.many c.carve.ensures.carved c.requires.owner c.requires.some c.in_ok-spot.ensures.enough in
    ap (λ (l : List ℕ). length l) c.reach.ensures.same ∙ t.same_size
