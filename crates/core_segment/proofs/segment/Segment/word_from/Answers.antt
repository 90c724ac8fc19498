use Rattle.core_segment.specs.Words.{words_of}
use Rattle.std.proofs.Common.{ℕ, ◌≡◌, ◌+◌, get_or, Some, ap, arith, sym, ◌∙◌}
use Rattle.std.proofs.lemmas.Option.{slice_get-get_or}
use Rattle.core_segment.specs.Chunks.{Chunk}
use Rattle.core_segment.specs.Layout.{tiles_of}
use Rattle.core_segment.specs.Segment.{chunks_of, chunk_at}
use Rattle.core_segment.proofs.PlaceLaws.{chunk}
use Rattle.core_segment.proofs.ToldLaws.{told, owned}
use Rattle.core_segment.proofs.WordLaws.{range-at}
use Rattle.core_segment.proofs.segment.Segment.word_from.Goals as goal

pub overflow_add-at : goal.overflow_add-at
unfolding chunk_at chunks_of
overflow_add-at c =
    let g = c.args.self.now in let items = (words_of g.region) in
    let tells = told items g.lists.firsts (tiles_of items) g.free c.args.at.place g.whole (owned items (tiles_of items) c.args.at.place (let r = c.requires.there in omega arith)) in
    let r = c.requires.there in let a = tells.words in let b = tells.low in let d = g.small in
    omega arith

pub overflow_add-at-2 : goal.overflow_add-at-2
unfolding chunk_at chunks_of
overflow_add-at-2 c =
    let g = c.args.self.now in let items = (words_of g.region) in
    let tells = told items g.lists.firsts (tiles_of items) g.free c.args.at.place g.whole (owned items (tiles_of items) c.args.at.place (let r = c.requires.there in omega arith)) in
    let r = c.requires.there in let a = tells.words in let b = tells.low in let d = g.small in
    omega arith

pub get_from-requires-clause-written : goal.get_from-requires-clause-written
unfolding chunk_at chunks_of
get_from-requires-clause-written c =
    let g = c.args.self.now in
    let own = owned (words_of g.region) (tiles_of (words_of g.region)) c.args.at.place (let r = c.requires.there in omega arith) in
    let low = g.filled c.args.at.place own in
    let r = c.requires.there in
    omega arith

pub returns : goal.returns
unfolding chunk_at chunks_of
returns c =
    let g = c.args.self.now in let items = (words_of g.region) in
    let tells = told items g.lists.firsts (tiles_of items) g.free c.args.at.place g.whole (owned items (tiles_of items) c.args.at.place (let r = c.requires.there in omega arith)) in
    let t = tells.tile in
    let r = c.requires.there in let a = tells.words in let b = tells.low in let place = tells.place in
    let words = (chunk items (tiles_of items) c.args.at.place).words in
    let read : get_or words c.args.i 0 ≡ c.get_from.result =
    ap (λ (x : Chunk). get_or x.words c.args.i 0) tells.is
    ∙ range-at items (t.place + 4) (t.place + t.size) c.args.i (omega arith)
    ∙ ap (λ (n : ℕ). get_or items n 0) (omega arith)
    ∙ sym c.get_from.ensures in
    slice_get-get_or words c.args.i 0 c.requires.there ∙ ap (λ (w : ℕ). Some w) read
