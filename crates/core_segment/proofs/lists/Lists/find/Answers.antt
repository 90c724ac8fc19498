use Rattle.core_segment.specs.Words.{words_of}
use Rattle.std.proofs.Common.{subst, sym, arith}
use Rattle.std.proofs.lemmas.Option.{IfSome_then}
use Rattle.core_segment.specs.Taking.{IsSpot}
use Rattle.core_segment.proofs.FindLaws.{IfNone_then, short-spot, short-enough, short-none}
use Rattle.core_segment.proofs.lists.Lists.find.Goals as goal

pub returns-then-words-le-SHORT-clause-some : goal.returns-then-words-le-SHORT-clause-some
returns-then-words-le-SHORT-clause-some c = IfSome_then c.find_short.result c.find_short.ensures.some
    (λ s is. subst (λ z. IsSpot (words_of c.args.region.now) c.args.self.now.firsts s.class z s.place) (sym is.2)
    (short-spot (words_of c.args.region.now) c.args.self.now.firsts s.class s.place c.requires.whole (let some = c.requires.some in let a = is.0 in omega arith) is.1 is.3))

pub returns-then-words-le-SHORT-clause-enough : goal.returns-then-words-le-SHORT-clause-enough
returns-then-words-le-SHORT-clause-enough c = IfSome_then c.find_short.result c.find_short.ensures.some
    (λ s is. let some = c.requires.some in let a = is.0 in
    short-enough (words_of c.args.region.now) c.args.self.now.firsts s.class 0 s.place c.args.words c.requires.whole
    (short-spot (words_of c.args.region.now) c.args.self.now.firsts s.class s.place c.requires.whole (omega arith) is.1 is.3) is.0)

pub returns-then-words-le-SHORT-clause-none : goal.returns-then-words-le-SHORT-clause-none
returns-then-words-le-SHORT-clause-none c = IfNone_then c.find_short.result c.find_short.ensures.none
    (short-none (words_of c.args.region.now) c.args.self.now.firsts c.args.words c.requires.whole c.requires.some c.if-words-le-SHORT.true)
