use Rattle.core_segment.specs.Words.{filled_of, words_of}
use Rattle.std.proofs.Common.{ℕ, ◌+◌, List, length, refl, sym, ap, subst, ◌∙◌, arith}
use Rattle.std.proofs.Math.ListN.{length-set}
use Rattle.std.proofs.Math.Path.{fun_ext}
use Rattle.std.specs.List.{slice_set}
use Rattle.core_segment.specs.Lists.{Tile}
use Rattle.core_segment.specs.Layout.{IsLaid, tiles_of, largest_in}
use Rattle.core_segment.specs.Order.{IsGoingOn}
use Rattle.core_segment.specs.Segment.{chunks_of, chunk_at, size_of, free_of, largest_of}
use Rattle.core_segment.proofs.OrderLaws.{going-same}
use Rattle.core_segment.proofs.PlaceLaws.{chunk}
use Rattle.core_segment.proofs.ToldLaws.{owned, writes-to, writes}
use Rattle.core_segment.proofs.FilledLaws.{below-word}
use Rattle.core_segment.proofs.segment.Segment.set_word.Goals as goal

pub overflow_add-at : goal.overflow_add-at
unfolding chunk_at chunks_of
overflow_add-at c =
    let g = c.args.self.now in let items = (words_of g.region) in
    let t = writes-to items g.lists.firsts (tiles_of items) g.free c.args.at.place c.args.i g.whole c.requires in
    let r = c.requires in let a = t.words in let b = t.low in let d = g.small in
    omega arith

pub overflow_add-at-2 : goal.overflow_add-at-2
unfolding chunk_at chunks_of
overflow_add-at-2 c =
    let g = c.args.self.now in let items = (words_of g.region) in
    let t = writes-to items g.lists.firsts (tiles_of items) g.free c.args.at.place c.args.i g.whole c.requires in
    let r = c.requires in let a = t.words in let b = t.low in let d = g.small in
    omega arith

pub put_written-requires : goal.put_written-requires
unfolding chunk_at chunks_of
put_written-requires c =
    let g = c.args.self.now in
    let own = owned (words_of g.region) (tiles_of (words_of g.region)) c.args.at.place (let r = c.requires in omega arith) in
    let low = g.filled c.args.at.place own in
    let r = c.requires in
    omega arith

pub invariant_of-self : goal.invariant_of-self
unfolding chunk_at chunks_of
invariant_of-self c =
    let g = c.args.self.now in let items = (words_of g.region) in
    let s = writes items g.lists.firsts (tiles_of items) g.free c.args.at.place c.args.i c.args.w g.whole c.requires in
    record {
      small =
          let size = length-set items (c.args.at.place + 4 + c.args.i) c.args.w in let small = g.small in
          let same = ap (λ (l : List ℕ). length l) c.put_written.ensures.words in
          omega arith;
      whole = subst (λ (l : List ℕ). IsLaid l g.lists.firsts (tiles_of l) g.free) (sym c.put_written.ensures.words) s.renew.whole;
      filled = below-word (chunk items (tiles_of items)) (chunk (words_of c.put_written.new.self) (tiles_of (words_of c.put_written.new.self)))
          (filled_of g.region) (filled_of c.put_written.new.self) c.args.at.place c.args.i c.args.w
          (fun_ext (λ k. ap (λ (l : List ℕ). chunk l (tiles_of l) k) c.put_written.ensures.words
          ∙ ap (λ (us : List Tile). chunk (slice_set items (c.args.at.place + 4 + c.args.i) c.args.w) us k) s.renew.is ∙ s.chunks k))
          g.filled (let same = c.put_written.ensures.filled in omega arith);
      going = subst (λ (l : List ℕ). IsGoingOn l g.lists.firsts (tiles_of l) g.reached) (sym c.put_written.ensures.words)
          (subst (λ (us : List Tile). IsGoingOn (slice_set items (c.args.at.place + 4 + c.args.i) c.args.w) g.lists.firsts us g.reached) (sym s.renew.is)
          (going-same items (slice_set items (c.args.at.place + 4 + c.args.i) c.args.w) g.lists.firsts (tiles_of items) g.reached g.going s.links
          (length-set items (c.args.at.place + 4 + c.args.i) c.args.w)));
    }

pub returns-clause-chunks : goal.returns-clause-chunks
unfolding chunk_at chunks_of
returns-clause-chunks c =
    let g = c.args.self.now in let items = (words_of g.region) in
    let s = writes items g.lists.firsts (tiles_of items) g.free c.args.at.place c.args.i c.args.w g.whole c.requires in
    fun_ext (λ k. ap (λ (l : List ℕ). chunk l (tiles_of l) k) c.put_written.ensures.words
    ∙ ap (λ (us : List Tile). chunk (slice_set items (c.args.at.place + 4 + c.args.i) c.args.w) us k) s.renew.is ∙ s.chunks k)

pub returns-clause-room : goal.returns-clause-room
unfolding size_of free_of largest_of chunk_at chunks_of
returns-clause-room c =
    let g = c.args.self.now in let items = (words_of g.region) in
    let s = writes items g.lists.firsts (tiles_of items) g.free c.args.at.place c.args.i c.args.w g.whole c.requires in
    record {
      size = ap (λ (l : List ℕ). length l) c.put_written.ensures.words ∙ length-set items (c.args.at.place + 4 + c.args.i) c.args.w;
      free = refl;
      largest = ap (λ (l : List ℕ). largest_in (tiles_of l)) c.put_written.ensures.words ∙ ap (λ (us : List Tile). largest_in us) s.renew.is;
    }
