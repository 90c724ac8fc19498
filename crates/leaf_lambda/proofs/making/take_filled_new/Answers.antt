use Rattle.std.proofs.Common.{ℕ, ◌≡◌, length, ap, ◌∙◌, arith}
use Rattle.core_segment.specs.Chunks.{Chunk, with_chunk}
use Rattle.core_view.proofs.Lists.{put-here}
use Rattle.core_segment.specs.Segment.{chunk_at}
use Rattle.leaf_lambda.specs.Making.{words_new}
use Rattle.leaf_lambda.proofs.FillLaws.{put-twice}
use Rattle.leaf_lambda.proofs.making.take_filled_new.Goals as goal

pub fill_new-requires-clause-long : goal.fill_new-requires-clause-long
fill_new-requires-clause-long c =
    let size = c.in-Some.ensures.taken.size in
    let here : chunk_at c.take.new.self c.in-Some.at.place ≡ record { owner = c.args.owner; words = c.in-Some.ensures.taken.text } = ap (λ (f : ℕ → Chunk). f c.in-Some.at.place) c.in-Some.ensures.taken.chunks ∙ put-here (chunk_at c.args.g.now) c.in-Some.at.place (record { owner = c.args.owner; words = c.in-Some.ensures.taken.text }) in
    ap (λ (x : Chunk). length x.words) here ∙ omega arith

pub returns-clause-vacant : goal.returns-clause-vacant
returns-clause-vacant c = c.in-Some.ensures.taken.vacant

pub returns-clause-chunk : goal.returns-clause-chunk
returns-clause-chunk c =
    let here : chunk_at c.take.new.self c.in-Some.at.place ≡ record { owner = c.args.owner; words = c.in-Some.ensures.taken.text } = ap (λ (f : ℕ → Chunk). f c.in-Some.at.place) c.in-Some.ensures.taken.chunks ∙ put-here (chunk_at c.args.g.now) c.in-Some.at.place (record { owner = c.args.owner; words = c.in-Some.ensures.taken.text }) in
    c.fill_new.ensures.chunk
    ∙ ap (λ (x : Chunk). with_chunk (chunk_at c.take.new.self) c.in-Some.at.place (record { owner = x.owner; words = words_new c.args.kind c.args.len c.args.header c.args.filler })) here
    ∙ ap (λ (f : ℕ → Chunk). with_chunk f c.in-Some.at.place (record { owner = c.args.owner; words = words_new c.args.kind c.args.len c.args.header c.args.filler })) c.in-Some.ensures.taken.chunks
    ∙ put-twice (chunk_at c.args.g.now) c.in-Some.at.place (record { owner = c.args.owner; words = c.in-Some.ensures.taken.text }) (record { owner = c.args.owner; words = words_new c.args.kind c.args.len c.args.header c.args.filler })

pub returns-clause-takes : goal.returns-clause-takes
returns-clause-takes c =
    let t = c.in-Some.ensures in
    let same = c.fill_new.ensures.room in
    record {
      size = same.size ∙ t.size;
      free = let a = t.free in let b = same.free in omega arith;
      largest = let a = t.largest in let b = same.largest in omega arith;
    }
