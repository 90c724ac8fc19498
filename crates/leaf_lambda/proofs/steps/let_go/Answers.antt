use Rattle.std.proofs.Common.{◌≡◌, ℕ, ◌+◌, ◌*◌, ◌-◌, refl, sym, ap, subst, arith}
use Rattle.core_view.specs.Core.{Core}
use Rattle.core_view.specs.Counts.{outside, one}
use Rattle.core_view.specs.Kept.{IsCore, Stays}
use Rattle.core_view.specs.Steps.{with_refs_of, IsRefStep}
use Rattle.core_view.proofs.Steps.{refs-core, refs-stays, refs-step, loosen-outside, outside-used, outside-most, outside-refs}
use Rattle.leaf_lambda.specs.Parts.{core_of}
use Rattle.leaf_lambda.proofs.StepLaws.{core-is}
use Rattle.leaf_lambda.proofs.steps.let_go.Goals as goal

pub drop_ref-requires-clause-short : goal.drop_ref-requires-clause-short
unfolding core_of
drop_ref-requires-clause-short c = c.requires.parts.core.short c.args.s.0 (outside-used (core_of c.args.p.now) c.args.s.0 c.requires.parts.core c.requires.held)

pub drop_ref-requires-clause-within : goal.drop_ref-requires-clause-within
unfolding core_of
drop_ref-requires-clause-within c = c.requires.parts.core.within c.args.s.0 (outside-used (core_of c.args.p.now) c.args.s.0 c.requires.parts.core c.requires.held)

pub drop_ref-requires-clause-used : goal.drop_ref-requires-clause-used
unfolding core_of
drop_ref-requires-clause-used c = (outside-used (core_of c.args.p.now) c.args.s.0 c.requires.parts.core c.requires.held)

pub drop_ref-requires-clause-some : goal.drop_ref-requires-clause-some
unfolding core_of
drop_ref-requires-clause-some c = outside-refs (core_of c.args.p.now) c.args.s.0 c.requires.held

pub returns-clause-core : goal.returns-clause-core
unfolding core_of
returns-clause-core c = core-is _ (with_refs_of (core_of c.args.p.now) c.args.s.0 (((core_of c.args.p.now).entries c.args.s.0).refs - 1)) c.drop_ref.ensures.entry refl refl (ap (λ (n : ℕ). 2 * n + 2) c.drop_ref.ensures.entries)

pub returns-clause-parts : goal.returns-clause-parts
returns-clause-parts c = record {
  core = subst IsCore (sym (returns-clause-core c)) (refs-core (core_of c.args.p.now) c.args.s.0 (((core_of c.args.p.now).entries c.args.s.0).refs - 1) c.requires.parts.core (outside-used (core_of c.args.p.now) c.args.s.0 c.requires.parts.core c.requires.held) (outside-most (core_of c.args.p.now) c.args.s.0 c.requires.held));
  room = let room = c.requires.parts.room in let same = c.drop_ref.ensures.free in omega arith;
}

pub returns-clause-stays : goal.returns-clause-stays
returns-clause-stays c = subst (λ (d : Core). Stays (core_of c.args.p.now) d) (sym (returns-clause-core c)) (refs-stays (core_of c.args.p.now) c.args.s.0 (((core_of c.args.p.now).entries c.args.s.0).refs - 1) c.requires.parts.core (outside-used (core_of c.args.p.now) c.args.s.0 c.requires.parts.core c.requires.held) (outside-most (core_of c.args.p.now) c.args.s.0 c.requires.held))

pub returns-clause-outside : goal.returns-clause-outside
returns-clause-outside c = λ t. subst (λ (d : Core). outside d t + one t c.args.s.0 ≡ outside (core_of c.args.p.now) t) (sym (returns-clause-core c)) (loosen-outside (core_of c.args.p.now) c.args.s.0 t c.requires.parts.core (outside-used (core_of c.args.p.now) c.args.s.0 c.requires.parts.core c.requires.held) c.requires.held)

pub returns-clause-step : goal.returns-clause-step
returns-clause-step c = subst (λ (d : Core). IsRefStep (core_of c.args.p.now) d) (sym (returns-clause-core c)) (refs-step (core_of c.args.p.now) c.args.s.0 (((core_of c.args.p.now).entries c.args.s.0).refs - 1))
