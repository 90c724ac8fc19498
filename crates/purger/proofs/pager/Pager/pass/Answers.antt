use Rattle.purger.proofs.PagerLaws.{moves-bodies, moves-purges, passes-none, passes-one, passes-still}
use Rattle.purger.proofs.SweptLaws.{few-same}
use Rattle.purger.proofs.pager.Pager.pass.Goals as goal

pub returns-then-not-may_go : goal.returns-then-not-may_go
returns-then-not-may_go g c = record { passes = passes-none c.args.s.0 c.args.part c.args.words c.args.entries c.args.behind c.args.self.now }

pub returns-then-is_touched : goal.returns-then-is_touched
returns-then-is_touched g c = record {
  passes = passes-still c.args.s.0 c.args.part c.args.words c.args.entries c.args.behind c.args.self.now c.pass_over.new.self (moves-purges c.args.self.now c.pass_over.new.self _ c.pass_over.ensures.moves)
      (moves-bodies c.args.self.now c.pass_over.new.self c.pass_over.ensures.moves)
      (few-same c.args.part c.args.words c.args.entries c.args.behind.left c.args.self.now.levels.parts c.pass_over.new.self.levels.parts c.pass_over.ensures.segment c.pass_over.ensures.moves.spare);
}

pub returns : goal.returns
returns g c = record { passes = passes-one c.args.s.0 c.args.part c.args.words c.args.entries c.args.behind.left c.args.self.now c.evict_one.new.self c.evict_one.result c.evict_one.ensures.purges c.evict_one.ensures.one c.evict_one.ensures.behind c.evict_one.ensures.few }
