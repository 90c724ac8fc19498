use Rattle.core_segment.specs.Words.{words_of}
use Rattle.core_segment.specs.Segment.{largest_of}
use Rattle.core_segment.proofs.FindLaws.{IfSome_both, whole-of, spot-room}
use Rattle.core_segment.proofs.segment.Segment.find.Goals as goal

pub returns-clause-room : goal.returns-clause-room
unfolding largest_of
returns-clause-room c =
    let g = c.args.self.now in
    IfSome_both c.find.result c.find.ensures.some c.find.ensures.enough
    (λ s is enough. spot-room (words_of g.region) g.lists.firsts s.class s.before s.place c.args.words (whole-of (words_of g.region) g.lists.firsts g.free g.whole) is enough)

pub returns-clause-none : goal.returns-clause-none
unfolding largest_of
returns-clause-none c = c.find.ensures.none
