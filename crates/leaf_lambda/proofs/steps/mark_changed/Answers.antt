use Rattle.std.proofs.Common.{◌≡◌, ℕ, ◌+◌, ◌*◌, refl, sym, ap, subst, arith}
use Rattle.core_view.specs.Core.{Core}
use Rattle.core_view.specs.Counts.{outside}
use Rattle.core_view.specs.Kept.{IsCore, Stays}
use Rattle.core_view.specs.Steps.{with_mark}
use Rattle.core_view.proofs.Steps.{mark-core, mark-stays, mark-outside}
use Rattle.leaf_lambda.specs.Parts.{core_of}
use Rattle.leaf_lambda.proofs.StepLaws.{core-is}
use Rattle.leaf_lambda.proofs.steps.mark_changed.Goals as goal

pub set_changed-requires : goal.set_changed-requires
unfolding core_of
set_changed-requires c = c.requires.used

pub returns-clause-core : goal.returns-clause-core
unfolding core_of
returns-clause-core c = core-is _ (with_mark (core_of c.args.p.now) c.args.s.0)
    c.set_changed.ensures.entry refl refl (ap (λ (n : ℕ). 2 * n + 2) c.set_changed.ensures.entries)

pub returns-clause-parts : goal.returns-clause-parts
returns-clause-parts c = record {
  core = subst IsCore (sym (returns-clause-core c)) (mark-core (core_of c.args.p.now) c.args.s.0 c.requires.parts.core c.requires.used);
  room = let room = c.requires.parts.room in let same = c.set_changed.ensures.free in omega arith;
}

pub returns-clause-stays : goal.returns-clause-stays
returns-clause-stays c = subst (λ (d : Core). Stays (core_of c.args.p.now) d) (sym (returns-clause-core c)) (mark-stays (core_of c.args.p.now) c.args.s.0 c.requires.parts.core c.requires.used)

pub returns-clause-outside : goal.returns-clause-outside
returns-clause-outside c = λ t. subst (λ (d : Core). outside d t ≡ outside (core_of c.args.p.now) t) (sym (returns-clause-core c)) (mark-outside (core_of c.args.p.now) c.args.s.0 t c.requires.parts.core c.requires.used)
