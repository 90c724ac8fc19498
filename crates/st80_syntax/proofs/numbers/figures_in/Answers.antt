use Rattle.st80_syntax.proofs.RunLaws.{figures_end, figures_more, figures_none}
use Rattle.st80_syntax.proofs.numbers.figures_in.Goals as goal

pub returns-in-None : goal.returns-in-None
returns-in-None c = figures_none _ _ _ _ _ c.each-test.true c.in-None.ensures c.each.invariant

pub each-preserved : goal.each-preserved
each-preserved c = figures_more _ _ _ _ _ _ c.each-test.true c.in-Some.ensures c.each.invariant

pub returns : goal.returns
returns c = figures_end _ _ _ _ _ c.each-test.false c.each.invariant
