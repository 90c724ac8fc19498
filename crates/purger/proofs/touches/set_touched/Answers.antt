use Rattle.std.proofs.Common.{◌≡◌, ℕ, ◌+◌, ◌*◌, refl, sym, ap, subst, arith}
use Rattle.object_table.specs.declared.entry.Entry.{Entry}
use Rattle.object_table.specs.Entries.{with_touched}
use Rattle.core_view.specs.Core.{Core, with_entry}
use Rattle.core_view.specs.Counts.{outside}
use Rattle.core_view.specs.Kept.{IsCore, Stays}
use Rattle.core_view.proofs.Lists.{put-here}
use Rattle.leaf_lambda.specs.Parts.{core_of}
use Rattle.leaf_lambda.proofs.StepLaws.{core-is}
use Rattle.purger.specs.Touches.{IsTouching}
use Rattle.purger.proofs.TouchLaws.{touch-core, touch-stays, touch-outside, touch-one}
use Rattle.purger.proofs.touches.set_touched.Goals as goal

pub set_touched-requires : goal.set_touched-requires
unfolding core_of
set_touched-requires c = c.requires.used

core-then : (c : goal.After-set_touched) → core_of (record c.args.p.now { names = record c.args.p.now.names { table = c.set_touched.new.self } }) ≡ with_entry (core_of c.args.p.now) c.args.s.0 (with_touched ((core_of c.args.p.now).entries c.args.s.0) c.args.touched)
unfolding core_of
core-then c = core-is _ (with_entry (core_of c.args.p.now) c.args.s.0 (with_touched ((core_of c.args.p.now).entries c.args.s.0) c.args.touched))
    c.set_touched.ensures.entry refl refl (ap (λ (n : ℕ). 2 * n + 2) c.set_touched.ensures.entries)

pub returns-clause-parts : goal.returns-clause-parts
returns-clause-parts c = record {
  core = subst IsCore (sym (core-then c)) (touch-core (core_of c.args.p.now) c.args.s.0 c.args.touched c.requires.parts.core c.requires.used);
  room = let room = c.requires.parts.room in let same = c.set_touched.ensures.free in omega arith;
}

pub returns-clause-step : goal.returns-clause-step
returns-clause-step c = subst (λ (d : Core). IsTouching (core_of c.args.p.now) d) (sym (core-then c)) (touch-one (core_of c.args.p.now) c.args.s.0 c.args.touched)

pub returns-clause-stays : goal.returns-clause-stays
returns-clause-stays c = subst (λ (d : Core). Stays (core_of c.args.p.now) d) (sym (core-then c)) (touch-stays (core_of c.args.p.now) c.args.s.0 c.args.touched c.requires.parts.core c.requires.used)

pub returns-clause-outside : goal.returns-clause-outside
returns-clause-outside c = λ t. subst (λ (d : Core). outside d t ≡ outside (core_of c.args.p.now) t) (sym (core-then c)) (touch-outside (core_of c.args.p.now) c.args.s.0 t c.args.touched c.requires.parts.core c.requires.used)

pub returns-clause-flag : goal.returns-clause-flag
returns-clause-flag c = subst (λ (d : Core). (d.entries c.args.s.0).flags.touched ≡ c.args.touched) (sym (core-then c)) (ap (λ (e : Entry). e.flags.touched) (put-here (core_of c.args.p.now).entries c.args.s.0 (with_touched ((core_of c.args.p.now).entries c.args.s.0) c.args.touched)))
