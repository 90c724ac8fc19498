use Rattle.std.proofs.Common.{◌≡◌, ℕ, ◌+◌, ◌*◌, refl, sym, ◌∙◌, ap, subst, arith}
use Rattle.core_view.specs.Core.{Core}
use Rattle.core_view.specs.Counts.{marked_of, outside}
use Rattle.core_view.specs.Kept.{IsCore, Stays}
use Rattle.leaf_lambda.specs.Parts.{core_of}
use Rattle.leaf_lambda.proofs.StepLaws.{core-is}
use Rattle.purger.specs.Marks.{IsUnmarking}
use Rattle.purger.proofs.PlainLaws.{plain, plain-core, plain-none, plain-outside, plain-stays, plain-step}
use Rattle.purger.proofs.marks.unmark_all.Goals as goal

core-then : (c : goal.After-unmark_all) → core_of (record c.args.p.now { names = record c.args.p.now.names { table = c.unmark_all.new.self } }) ≡ plain (core_of c.args.p.now)
unfolding core_of
core-then c = core-is _ (plain (core_of c.args.p.now)) c.unmark_all.ensures.entry refl refl (ap (λ (n : ℕ). 2 * n + 2) c.unmark_all.ensures.entries)

pub returns-clause-parts : goal.returns-clause-parts
returns-clause-parts c = record {
  core = subst IsCore (sym (core-then c)) (plain-core (core_of c.args.p.now) c.requires.parts.core);
  room = let room = c.requires.parts.room in let same = c.unmark_all.ensures.free in omega arith;
}

pub returns-clause-step : goal.returns-clause-step
returns-clause-step c = subst (λ (d : Core). IsUnmarking (core_of c.args.p.now) d) (sym (core-then c)) (plain-step (core_of c.args.p.now))

pub returns-clause-stays : goal.returns-clause-stays
returns-clause-stays c = subst (λ (d : Core). Stays (core_of c.args.p.now) d) (sym (core-then c)) (plain-stays (core_of c.args.p.now))

pub returns-clause-outside : goal.returns-clause-outside
returns-clause-outside c = λ t. subst (λ (d : Core). outside d t ≡ outside (core_of c.args.p.now) t) (sym (core-then c)) (plain-outside (core_of c.args.p.now) t)

pub returns-clause-none : goal.returns-clause-none
returns-clause-none c = λ n. ap (λ (d : Core). marked_of d n) (core-then c) ∙ plain-none (core_of c.args.p.now) n
