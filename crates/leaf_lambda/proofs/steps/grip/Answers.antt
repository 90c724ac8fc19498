use Rattle.std.proofs.Common.{◌≡◌, ℕ, ◌+◌, ◌*◌, refl, sym, ap, subst, arith}
use Rattle.core_view.specs.Core.{Core}
use Rattle.core_view.specs.Counts.{outside, one}
use Rattle.core_view.specs.Kept.{IsCore, Stays}
use Rattle.core_view.specs.Steps.{with_refs_of, IsRefStep}
use Rattle.core_view.proofs.Few.{light-refs}
use Rattle.core_view.proofs.Steps.{refs-core, refs-stays, refs-step, grip-outside}
use Rattle.leaf_lambda.specs.Parts.{core_of}
use Rattle.leaf_lambda.proofs.StepLaws.{core-is, more-uses}
use Rattle.leaf_lambda.proofs.steps.grip.Goals as goal

pub add_ref-requires-clause-short : goal.add_ref-requires-clause-short
unfolding core_of
add_ref-requires-clause-short c = c.requires.parts.core.short c.args.s.0 c.requires.used

pub add_ref-requires-clause-within : goal.add_ref-requires-clause-within
unfolding core_of
add_ref-requires-clause-within c = c.requires.parts.core.within c.args.s.0 c.requires.used

pub add_ref-requires-clause-used : goal.add_ref-requires-clause-used
unfolding core_of
add_ref-requires-clause-used c = c.requires.used

pub add_ref-requires-clause-few : goal.add_ref-requires-clause-few
unfolding core_of
add_ref-requires-clause-few c = light-refs (core_of c.args.p.now) c.args.s.0 c.requires.parts.core c.requires.light

pub returns-clause-core : goal.returns-clause-core
unfolding core_of
returns-clause-core c = core-is _ (with_refs_of (core_of c.args.p.now) c.args.s.0 (((core_of c.args.p.now).entries c.args.s.0).refs + 1)) c.add_ref.ensures.entry refl refl (ap (λ (n : ℕ). 2 * n + 2) c.add_ref.ensures.entries)

pub returns-clause-parts : goal.returns-clause-parts
returns-clause-parts c = record {
  core = subst IsCore (sym (returns-clause-core c)) (refs-core (core_of c.args.p.now) c.args.s.0 (((core_of c.args.p.now).entries c.args.s.0).refs + 1) c.requires.parts.core c.requires.used (more-uses (core_of c.args.p.now) c.args.s.0 c.requires.parts.core));
  room = let room = c.requires.parts.room in let same = c.add_ref.ensures.free in omega arith;
}

pub returns-clause-stays : goal.returns-clause-stays
returns-clause-stays c = subst (λ (d : Core). Stays (core_of c.args.p.now) d) (sym (returns-clause-core c)) (refs-stays (core_of c.args.p.now) c.args.s.0 (((core_of c.args.p.now).entries c.args.s.0).refs + 1) c.requires.parts.core c.requires.used (more-uses (core_of c.args.p.now) c.args.s.0 c.requires.parts.core))

pub returns-clause-outside : goal.returns-clause-outside
returns-clause-outside c = λ t. subst (λ (d : Core). outside d t ≡ outside (core_of c.args.p.now) t + one t c.args.s.0) (sym (returns-clause-core c)) (grip-outside (core_of c.args.p.now) c.args.s.0 t c.requires.parts.core c.requires.used)

pub returns-clause-step : goal.returns-clause-step
returns-clause-step c = subst (λ (d : Core). IsRefStep (core_of c.args.p.now) d) (sym (returns-clause-core c)) (refs-step (core_of c.args.p.now) c.args.s.0 (((core_of c.args.p.now).entries c.args.s.0).refs + 1))
