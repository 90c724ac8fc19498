use Rattle.std.proofs.Common.{inl, inr, refl, arith}
use Rattle.purger.proofs.OnlyLaws.{keeps-refl}
use Rattle.purger.proofs.PagerLaws.{purges-none, purges-exit}
use Rattle.purger.specs.Pager.{core_in}
use Rattle.purger.proofs.pager.Pager.free_enough.Goals as goal

pub returns-then-not-is_worth_a_sweep-clause-purges : goal.returns-then-not-is_worth_a_sweep-clause-purges
returns-then-not-is_worth_a_sweep-clause-purges g c = purges-none c.args.self.now _

pub returns-then-not-is_worth_a_sweep-clause-bodies : goal.returns-then-not-is_worth_a_sweep-clause-bodies
returns-then-not-is_worth_a_sweep-clause-bodies g c = keeps-refl (core_in c.args.self.now)

pub returns-then-not-is_worth_a_sweep-clause-behind : goal.returns-then-not-is_worth_a_sweep-clause-behind
returns-then-not-is_worth_a_sweep-clause-behind g c = inl refl

pub returns-then-not-is_worth_a_sweep-clause-few : goal.returns-then-not-is_worth_a_sweep-clause-few
returns-then-not-is_worth_a_sweep-clause-few g c = c.is_worth_a_sweep.ensures.no c.if-not-is_worth_a_sweep.true

pub returns-in_err-free_idle-clause-purges : goal.returns-in_err-free_idle-clause-purges
returns-in_err-free_idle-clause-purges g c = purges-exit _ _ c.from_residual.result c.in_err-free_idle.field-0.0 c.from_residual.ensures.1 c.in_err-free_idle.ensures.purges

pub returns-clause-behind : goal.returns-clause-behind
returns-clause-behind g c = inr (refl, c.in_ok-free_idle.ensures.idle)

pub returns-clause-few : goal.returns-clause-few
returns-clause-few g c = inl (omega arith)
