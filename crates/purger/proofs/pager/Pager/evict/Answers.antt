use Rattle.std.proofs.Common.{[], refl}
use Rattle.core_view.proofs.Core.{placed-used}
use Rattle.leaf_lambda.specs.Parts.{core_of}
use Rattle.delta_counts.specs.Effects.{Same}
use Rattle.delta_counts.proofs.EffectLaws.{sound-after}
use Rattle.purger.specs.Pager.{core_in}
use Rattle.purger.proofs.LeavingLaws.{left-behind, left-fault, left-marks, left-one, left-preserves, left-spares, unmarks-body, unmarks-ready}
use Rattle.purger.proofs.PagerLaws.{counts-purges, gives-bodies, gives-marks, one-then, purges-exit, purges-then}
use Rattle.purger.proofs.MarkLaws.{Kept-trans}
use Rattle.purger.proofs.pager.Pager.evict.Goals as goal

pub unmark-requires : goal.unmark-requires
unmark-requires g c = record { used = placed-used ((core_in c.args.self.now).entries c.args.s.0).state c.requires.body.0 c.requires.body.1 }

pub put_away-requires-clause-ready : goal.put_away-requires-clause-ready
put_away-requires-clause-ready g c = unmarks-ready c.args.s.0 c.args.self.now c.unmark.new.self c.requires.ready c.unmark.ensures.unmarks

pub put_away-requires-clause-body : goal.put_away-requires-clause-body
put_away-requires-clause-body g c = (c.requires.body.0, unmarks-body c.args.s.0 c.requires.body.0 c.args.self.now c.unmark.new.self c.unmark.ensures.unmarks c.requires.body.1)

pub put_away-requires-clause-unmarked : goal.put_away-requires-clause-unmarked
put_away-requires-clause-unmarked g c = c.unmark.ensures.unmarks.gone

pub returns-in_err-put_away-clause-purges : goal.returns-in_err-put_away-clause-purges
returns-in_err-put_away-clause-purges g c =
    let u = c.unmark.ensures.unmarks in
    let x = c.in_err-put_away.ensures.evicts in
    let spares = left-spares c.args.s.0 c.requires.body.0 c.args.self.now c.unmark.new.self c.put_away.new.self c.requires.body.1 c.requires.loose u x.leaves in
    purges-exit {S = Unit {0}} c.args.self.now c.put_away.new.self c.from_residual.result c.in_err-put_away.field-0.0 c.from_residual.ensures.1 (left-fault c.args.s.0 c.args.self.now c.unmark.new.self c.put_away.new.self c.in_err-put_away.field-0.0 spares u x)

pub returns-in_err-put_away-clause-one : goal.returns-in_err-put_away-clause-one
returns-in_err-put_away-clause-one g c = left-one c.args.s.0 c.requires.body.0 c.args.self.now c.unmark.new.self c.put_away.new.self c.requires.body.1 c.unmark.ensures.unmarks c.put_away.ensures.evicts.leaves

pub returns-in_err-put_away-clause-unmarked : goal.returns-in_err-put_away-clause-unmarked
returns-in_err-put_away-clause-unmarked g c = left-marks c.args.s.0 c.args.self.now c.unmark.new.self c.put_away.new.self c.unmark.ensures.unmarks c.put_away.ensures.evicts.leaves

pub fold_leaf-requires-clause-sound : goal.fold_leaf-requires-clause-sound
fold_leaf-requires-clause-sound g c = sound-after Same [] [] c.unmark.new.self.levels c.put_away.new.self.levels (unmarks-ready c.args.s.0 c.args.self.now c.unmark.new.self c.requires.ready c.unmark.ensures.unmarks).sound c.in_ok-put_away.ensures.evicts.keeps

pub fold_leaf-requires-clause-used : goal.fold_leaf-requires-clause-used
unfolding core_of
fold_leaf-requires-clause-used g c = (c.put_away.ensures.evicts.leaves.within.live c.args.s.0 (placed-used ((core_in c.unmark.new.self).entries c.args.s.0).state c.requires.body.0 (unmarks-body c.args.s.0 c.requires.body.0 c.args.self.now c.unmark.new.self c.unmark.ensures.unmarks c.requires.body.1))).0

pub fold_leaf-requires-clause-leaf : goal.fold_leaf-requires-clause-leaf
unfolding core_of
fold_leaf-requires-clause-leaf g c = c.in_ok-put_away.ensures.gone

pub returns-clause-purges : goal.returns-clause-purges
returns-clause-purges g c =
    let s = c.args.s.0 in
    let a = c.args.self.now in
    let b = c.unmark.new.self in
    let d = c.put_away.new.self in
    let u = c.unmark.ensures.unmarks in
    let x = c.in_ok-put_away.ensures in
    let at = c.requires.body in
    purges-then a d _ c.fold_leaf.result (left-spares s at.0 a b d at.1 c.requires.loose u x.evicts.leaves) (left-preserves s at.0 a b d at.1 u x.evicts.leaves x.evicts.keeps x.gone x.wider)
    (counts-purges d _ c.fold_leaf.result refl c.fold_leaf.ensures.counts)

pub returns-clause-one : goal.returns-clause-one
returns-clause-one g c =
    let d = c.put_away.new.self in
    one-then c.args.s.0 (core_in c.args.self.now) (core_in d) (core_of c.fold_leaf.new.self.parts) (left-one c.args.s.0 c.requires.body.0 c.args.self.now c.unmark.new.self d c.requires.body.1 c.unmark.ensures.unmarks c.put_away.ensures.evicts.leaves)
    (gives-bodies d.levels c.fold_leaf.new.self c.fold_leaf.ensures.counts.leaves)

pub returns-clause-left : goal.returns-clause-left
returns-clause-left g c = left-behind c.args.s.0 c.put_away.new.self.levels _ c.fold_leaf.result c.in_ok-put_away.ensures.gone c.fold_leaf.ensures.counts.leaves c.fold_leaf.ensures.none c.fold_leaf.ensures.folded

pub returns-clause-unmarked : goal.returns-clause-unmarked
returns-clause-unmarked g c = λ off.
    let d = c.put_away.new.self in
    Kept-trans (core_in c.args.self.now) (core_in d) (core_of c.fold_leaf.new.self.parts) (left-marks c.args.s.0 c.args.self.now c.unmark.new.self d c.unmark.ensures.unmarks c.put_away.ensures.evicts.leaves off) (gives-marks d.levels c.fold_leaf.new.self c.fold_leaf.ensures.counts.leaves)
