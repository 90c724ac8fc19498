use Rattle.std.proofs.Common.{refl}
use Rattle.purger.proofs.PagerLaws.{moves-refl, moves-trans, one-moves}
use Rattle.purger.proofs.pager.Pager.compact.Goals as goal

pub loop-levels-init : goal.loop-levels-init
loop-levels-init g c = record { moves = moves-refl c.args.self.now }

pub loop-levels-smaller : goal.loop-levels-smaller
loop-levels-smaller g c = c.compact_one.ensures.less c.loop-levels-test.true

pub loop-levels-preserved : goal.loop-levels-preserved
loop-levels-preserved g c =
    let r = c.compact_one.ensures in
    record { moves = moves-trans c.args.self.now _ _ c.loop-levels.invariant.moves (one-moves _ _ refl refl r.moves r.stays r.size r.free r.spare) }

pub returns-clause-moves : goal.returns-clause-moves
returns-clause-moves g c =
    let r = c.compact_one.ensures in
    moves-trans c.args.self.now _ _ c.loop-levels.invariant.moves (one-moves _ _ refl refl r.moves r.stays r.size r.free r.spare)
