use Rattle.delta_counts.proofs.LowerLaws.{ok-of}
use Rattle.purger.specs.Pager.{core_in}
use Rattle.purger.proofs.PagerLaws.{one-then, purges-exit, purges-then, ready-after}
use Rattle.purger.proofs.pager.Pager.evict_one.Goals as goal

pub idle_behind-requires-clause-parts : goal.idle_behind-requires-clause-parts
idle_behind-requires-clause-parts g c = c.args.self.now.levels.whole.parts

pub free_enough-requires : goal.free_enough-requires
free_enough-requires g c = record { ready = ready-after c.args.self.now c.evict.new.self c.requires.ready c.evict.ensures.purges.leaves c.in_ok-evict.ensures.purges.keeps }

pub returns-in_err-evict-clause-purges : goal.returns-in_err-evict-clause-purges
returns-in_err-evict-clause-purges g c = purges-exit _ _ c.from_residual.result c.in_err-evict.field-0.0 c.from_residual.ensures.1 c.in_err-evict.ensures.purges

pub returns-clause-purges : goal.returns-clause-purges
returns-clause-purges g c = purges-then c.args.self.now c.evict.new.self c.free_enough.new.self c.free_enough.result c.evict.ensures.purges.leaves c.in_ok-evict.ensures.purges.keeps c.free_enough.ensures.purges

pub returns-clause-one : goal.returns-clause-one
returns-clause-one g c = one-then c.args.s.0 (core_in c.args.self.now) (core_in c.evict.new.self) (core_in c.free_enough.new.self) c.evict.ensures.one c.free_enough.ensures.bodies

pub returns-clause-gone : goal.returns-clause-gone
returns-clause-gone g c = ok-of c.free_enough.result (c.free_enough.ensures.purges.leaves.purged.leaves c.args.s.0 c.in_ok-evict.ensures.left.gone)

pub returns-clause-behind : goal.returns-clause-behind
returns-clause-behind g c = c.free_enough.ensures.behind
