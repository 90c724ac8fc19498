use Rattle.core_segment.specs.Words.{words_of}
use Rattle.std.proofs.Common.{ℕ, ◌<◌, length, subst, sym, arith}
use Rattle.core_segment.specs.Lists.{chain}
use Rattle.core_segment.proofs.FindLaws.{IsPassing, passing-begins, passing-spot, passing-free, passing-within, passing-on, passing-shorter, passing-ends}
use Rattle.core_segment.proofs.lists.Lists.find_long.Goals as goal

pub loop-link-init : goal.loop-link-init
loop-link-init c =
    let region = (words_of c.args.region.now) in
    subst (IsPassing region c.args.self.now.firsts c.args.words 0) (sym c.first-link.ensures) (passing-begins region c.args.self.now.firsts c.args.words c.requires.whole)

pub size_at-requires : goal.size_at-requires
size_at-requires c =
    (passing-free (words_of c.args.region.now) c.args.self.now.firsts c.args.words c.loop-link.before c.loop-link.link c.requires.whole c.loop-link.invariant (omega arith)).head

pub returns-then-words-size_at-clause-some : goal.returns-then-words-size_at-clause-some
returns-then-words-size_at-clause-some c =
    passing-spot (words_of c.args.region.now) c.args.self.now.firsts c.args.words c.loop-link.before c.loop-link.link c.requires.whole c.loop-link.invariant (omega arith)

pub link_at-link-requires : goal.link_at-link-requires
link_at-link-requires c =
    passing-within (words_of c.args.region.now) c.args.self.now.firsts c.args.words c.loop-link.before c.loop-link.link c.requires.whole c.loop-link.invariant (omega arith)

pub loop-link-smaller : goal.loop-link-smaller
loop-link-smaller c =
    let region = (words_of c.args.region.now) in
    subst (λ (z : ℕ). length (chain region (length region) z) < length (chain region (length region) c.loop-link.link)) (sym c.link_at-link.ensures)
    (passing-shorter region c.args.self.now.firsts c.args.words c.loop-link.before c.loop-link.link c.requires.whole c.loop-link.invariant (omega arith))

pub loop-link-preserved : goal.loop-link-preserved
loop-link-preserved c =
    let region = (words_of c.args.region.now) in
    subst (IsPassing region c.args.self.now.firsts c.args.words c.loop-link.link) (sym c.link_at-link.ensures)
    (passing-on region c.args.self.now.firsts c.args.words c.loop-link.before c.loop-link.link c.requires.whole c.loop-link.invariant (omega arith)
    (subst (λ (z : ℕ). z < c.args.words) c.size_at.ensures c.if-words-size_at.false))

pub returns-clause-none : goal.returns-clause-none
returns-clause-none c =
    let region = (words_of c.args.region.now) in
    passing-ends region c.args.self.now.firsts c.args.words c.loop-link.before c.requires.whole
    (subst (IsPassing region c.args.self.now.firsts c.args.words c.loop-link.before) (omega arith) c.loop-link.invariant) c.requires.long
