use Rattle.st80_view.proofs.OwnLaws.{at_place, one_more}
use Rattle.st80_view.proofs.classes.own_of.Goals as goal

pub loop-home-preserved : goal.loop-home-preserved
loop-home-preserved c =
    let at = at_place c.args.homes.now c.loop-home.home-index c.home-item.result c.loop-home-test.true c.home-item.is in
    one_more c.args.homes.now c.args.class c.args.selector.now c.loop-home.home-index c.home-item.result at c.loop-home.invariant (λ under. let yes = c.is_own.ensures.1 under in let no = c.if-is_own.false in absurd (cc))
