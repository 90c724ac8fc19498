use Rattle.core_segment.specs.Chunks.{no_chunk}
use Rattle.core_segment.specs.Words.{filled_of, words_of}
use Rattle.std.proofs.Common.{◌≡◌, ℕ, ◌+◌, List, ◌∷◌, ◌++◌, length, sym, ap, subst, ◌∙◌, arith}
use Rattle.std.proofs.Math.Path.{fun_ext}
use Rattle.core_segment.specs.Heads.{IsClosed}
use Rattle.core_segment.specs.Lists.{Tile, free_tile, class_in, first_in, with_first}
use Rattle.core_segment.specs.Layout.{IsLaid, tiles_of, largest_in}
use Rattle.core_segment.specs.Segment.{chunks_of, chunk_at, size_of, free_of, largest_of}
use Rattle.core_segment.proofs.LayoutLaws.{free-within}
use Rattle.core_segment.proofs.PlaceLaws.{chunk}
use Rattle.core_segment.proofs.GiveLaws.{IsGiven, given}
use Rattle.core_segment.proofs.ToldLaws.{IsTold, told}
use Rattle.core_segment.proofs.FilledLaws.{below-with}
use Rattle.core_segment.proofs.segment.Segment.give.Goals as goal

-- a chunk given back, among those of a region
gives : (region region' firsts : List ℕ) (ts : List Tile) (free p size : ℕ) → IsLaid region firsts ts free → (t : IsTold region ts p) → length firsts ≡ 66 → size ≡ t.tile.size
    → IsClosed region region' p size (first_in firsts (class_in size))
    → IsGiven region region' (with_first firsts size (p + 1)) ts (t.before ++ free_tile p size ∷ t.after) p size (free + size)
gives region region' firsts ts free p size laid t many e closed =
    let s = subst (λ (us : List Tile). IsLaid region firsts us free) t.split laid in
    subst (λ (us : List Tile). IsGiven region region' (with_first firsts size (p + 1)) us (t.before ++ free_tile p size ∷ t.after) p size (free + size)) (sym t.split)
    (subst (λ (z : ℕ). IsGiven region region' (with_first firsts z (p + 1)) (t.before ++ t.tile ∷ t.after) (t.before ++ free_tile p z ∷ t.after) p z (free + z)) (sym e)
    (subst (λ (z : ℕ). IsGiven region region' (with_first firsts t.tile.size (z + 1)) (t.before ++ t.tile ∷ t.after) (t.before ++ free_tile z t.tile.size ∷ t.after) z t.tile.size (free + t.tile.size)) t.place
    (given region region' firsts free t.before t.tile t.after t.own s many
    (subst (λ (z : ℕ). IsClosed region region' z t.tile.size (first_in firsts (class_in t.tile.size))) (sym t.place)
    (subst (λ (z : ℕ). IsClosed region region' p z (first_in firsts (class_in z))) e closed)))))

pub size_at-size-requires : goal.size_at-size-requires
unfolding chunk_at chunks_of
size_at-size-requires c =
    let g = c.args.self.now in
    (told (words_of g.region) g.lists.firsts (tiles_of (words_of g.region)) g.free c.args.at.place g.whole c.requires).head

pub push-requires-clause-within : goal.push-requires-clause-within
unfolding chunk_at chunks_of
push-requires-clause-within c =
    let g = c.args.self.now in
    let t = told (words_of g.region) g.lists.firsts (tiles_of (words_of g.region)) g.free c.args.at.place g.whole c.requires in
    let a = t.low in let b = t.sized in let d = c.size_at-size.ensures in
    omega arith

pub push-requires-clause-some : goal.push-requires-clause-some
unfolding chunk_at chunks_of
push-requires-clause-some c =
    let g = c.args.self.now in
    let t = told (words_of g.region) g.lists.firsts (tiles_of (words_of g.region)) g.free c.args.at.place g.whole c.requires in
    let a = t.some in let b = t.sized in let d = c.size_at-size.ensures in
    omega arith

pub overflow_add-self : goal.overflow_add-self
unfolding chunk_at chunks_of
overflow_add-self c =
    let g = c.args.self.now in
    let region' = (words_of c.push.new.region) in
    let t = told (words_of g.region) g.lists.firsts (tiles_of (words_of g.region)) g.free c.args.at.place g.whole c.requires in
    let s = gives (words_of g.region) region' g.lists.firsts (tiles_of (words_of g.region)) g.free c.args.at.place c.size_at-size.result g.whole t g.lists.many
    (c.size_at-size.ensures ∙ t.sized) c.push.ensures.closed in
    let few = free-within 0 (length region') (tiles_of region') s.renew.whole.spans in
    let same = c.push.ensures.closed.same_size in let small = g.small in let counted = s.renew.whole.counted in
    omega arith

pub invariant_of-self : goal.invariant_of-self
unfolding chunk_at chunks_of
invariant_of-self c =
    let g = c.args.self.now in
    let region' = (words_of c.push.new.region) in
    let t = told (words_of g.region) g.lists.firsts (tiles_of (words_of g.region)) g.free c.args.at.place g.whole c.requires in
    let s = gives (words_of g.region) region' g.lists.firsts (tiles_of (words_of g.region)) g.free c.args.at.place c.size_at-size.result g.whole t g.lists.many
    (c.size_at-size.ensures ∙ t.sized) c.push.ensures.closed in
    record {
      small = let same = c.push.ensures.closed.same_size in let small = g.small in omega arith;
      whole = subst (λ (fs : List ℕ). IsLaid region' fs (tiles_of region') (g.free + c.size_at-size.result)) (sym c.push.ensures.firsts) s.renew.whole;
      filled = below-with (chunk (words_of g.region) (tiles_of (words_of g.region))) (chunk region' (tiles_of region')) (filled_of g.region) (filled_of c.push.new.region)
          c.args.at.place no_chunk (fun_ext (λ k. ap (λ (us : List Tile). chunk region' us k) s.renew.is ∙ s.chunks k)) g.filled c.push.ensures.grown (λ own. absurd (omega arith));
      going = tt;
    }

pub returns-clause-chunks : goal.returns-clause-chunks
unfolding chunk_at chunks_of
returns-clause-chunks c =
    let g = c.args.self.now in
    let region' = (words_of c.push.new.region) in
    let t = told (words_of g.region) g.lists.firsts (tiles_of (words_of g.region)) g.free c.args.at.place g.whole c.requires in
    let s = gives (words_of g.region) region' g.lists.firsts (tiles_of (words_of g.region)) g.free c.args.at.place c.size_at-size.result g.whole t g.lists.many
    (c.size_at-size.ensures ∙ t.sized) c.push.ensures.closed in
    fun_ext (λ k. ap (λ (us : List Tile). chunk region' us k) s.renew.is ∙ s.chunks k)

pub returns-clause-free : goal.returns-clause-free
unfolding free_of chunk_at chunks_of
returns-clause-free c =
    let g = c.args.self.now in
    let t = told (words_of g.region) g.lists.firsts (tiles_of (words_of g.region)) g.free c.args.at.place g.whole c.requires in
    let a = t.words in let b = t.sized in let d = c.size_at-size.ensures in
    omega arith

pub returns-clause-largest : goal.returns-clause-largest
unfolding largest_of chunk_at chunks_of
returns-clause-largest c =
    let g = c.args.self.now in
    let region' = (words_of c.push.new.region) in
    let t = told (words_of g.region) g.lists.firsts (tiles_of (words_of g.region)) g.free c.args.at.place g.whole c.requires in
    let s = gives (words_of g.region) region' g.lists.firsts (tiles_of (words_of g.region)) g.free c.args.at.place c.size_at-size.result g.whole t g.lists.many
    (c.size_at-size.ensures ∙ t.sized) c.push.ensures.closed in
    let a = s.largest in let b = ap (λ (us : List Tile). largest_in us) s.renew.is in
    omega arith

pub returns-clause-room : goal.returns-clause-room
unfolding largest_of chunk_at chunks_of
returns-clause-room c =
    let g = c.args.self.now in
    let region' = (words_of c.push.new.region) in
    let t = told (words_of g.region) g.lists.firsts (tiles_of (words_of g.region)) g.free c.args.at.place g.whole c.requires in
    let s = gives (words_of g.region) region' g.lists.firsts (tiles_of (words_of g.region)) g.free c.args.at.place c.size_at-size.result g.whole t g.lists.many
    (c.size_at-size.ensures ∙ t.sized) c.push.ensures.closed in
    let a = s.room in let b = ap (λ (us : List Tile). largest_in us) s.renew.is in let d = t.words in let e = t.sized in let f = c.size_at-size.ensures in
    omega arith

pub returns-clause-size : goal.returns-clause-size
unfolding size_of
returns-clause-size c = c.push.ensures.closed.same_size
