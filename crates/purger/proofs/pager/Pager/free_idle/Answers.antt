use Rattle.std.proofs.Common.{refl}
use Rattle.purger.proofs.PagerLaws.{counts-purges, gives-bodies, gives-idle}
use Rattle.purger.proofs.pager.Pager.free_idle.Goals as goal

pub returns-clause-purges : goal.returns-clause-purges
returns-clause-purges g c = counts-purges c.args.self.now _ c.give_idle.result refl c.give_idle.ensures.counts

pub returns-clause-bodies : goal.returns-clause-bodies
returns-clause-bodies g c = gives-bodies c.args.self.now.levels c.give_idle.new.self c.give_idle.ensures.counts.leaves

pub returns-clause-idle : goal.returns-clause-idle
returns-clause-idle g c = gives-idle c.args.self.now.levels c.give_idle.new.self c.give_idle.result c.give_idle.ensures.counts.leaves c.give_idle.ensures.none
