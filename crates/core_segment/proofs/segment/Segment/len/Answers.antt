use Rattle.core_segment.specs.Words.{words_of}
use Rattle.std.proofs.Common.{arith}
use Rattle.core_segment.specs.Layout.{tiles_of}
use Rattle.core_segment.specs.Segment.{chunks_of, chunk_at, size_of}
use Rattle.core_segment.proofs.ToldLaws.{told}
use Rattle.core_segment.proofs.segment.Segment.len.Goals as goal

pub size_at-requires : goal.size_at-requires
unfolding chunk_at chunks_of
size_at-requires c =
    let g = c.args.self.now in
    (told (words_of g.region) g.lists.firsts (tiles_of (words_of g.region)) g.free c.args.at.place g.whole c.requires).head

pub overflow_sub-result : goal.overflow_sub-result
unfolding chunk_at chunks_of
overflow_sub-result c =
    let g = c.args.self.now in
    let tells = told (words_of g.region) g.lists.firsts (tiles_of (words_of g.region)) g.free c.args.at.place g.whole c.requires in
    let a = tells.some in let b = tells.sized in let d = c.size_at.ensures in
    omega arith

pub returns-clause-words : goal.returns-clause-words
unfolding chunk_at chunks_of
returns-clause-words c =
    let g = c.args.self.now in
    let tells = told (words_of g.region) g.lists.firsts (tiles_of (words_of g.region)) g.free c.args.at.place g.whole c.requires in
    let a = tells.words in let b = tells.sized in let d = c.size_at.ensures in
    omega arith

pub returns-clause-small : goal.returns-clause-small
unfolding size_of chunk_at chunks_of
returns-clause-small c =
    let g = c.args.self.now in
    let tells = told (words_of g.region) g.lists.firsts (tiles_of (words_of g.region)) g.free c.args.at.place g.whole c.requires in
    let a = tells.some in let b = tells.low in let e = tells.sized in let d = c.size_at.ensures in
    omega arith
