use Rattle.std.proofs.Common.{ℕ, refl, sym, ◌∙◌, ap, subst, arith, ◌+◌, ◌*◌}
use Rattle.object_table.specs.declared.entry.Entry.{Entry}
use Rattle.object_table.specs.Entries.{put}
use Rattle.object_table.specs.Table.{entry_at}
use Rattle.core_view.specs.Core.{with_entry}
use Rattle.core_view.specs.Kept.{IsCore}
use Rattle.core_view.proofs.Entries.{step-core}
use Rattle.core_view.proofs.Bodies.{opening-step}
use Rattle.leaf_lambda.specs.Parts.{core_of}
use Rattle.leaf_lambda.specs.Records.{opened}
use Rattle.leaf_lambda.proofs.StepLaws.{core-is}
use Rattle.leaf_lambda.proofs.bodies.open_body.Goals as goal

pub used_entry-e-requires : goal.used_entry-e-requires
unfolding core_of
used_entry-e-requires c = c.requires.opening.used

pub set-requires-clause-short : goal.set-requires-clause-short
unfolding core_of
set-requires-clause-short c = c.requires.parts.core.short c.args.s.0 c.requires.opening.used

pub set-requires-clause-within : goal.set-requires-clause-within
unfolding core_of
set-requires-clause-within c = c.requires.parts.core.within c.args.s.0 c.requires.opening.used

pub set-requires-clause-used : goal.set-requires-clause-used
unfolding core_of
set-requires-clause-used c = c.requires.opening.used

pub returns-clause-core : goal.returns-clause-core
unfolding core_of
returns-clause-core c =
    core-is _ (with_entry (core_of c.args.p.now) c.args.s.0 (opened ((core_of c.args.p.now).entries c.args.s.0) c.args.at.place c.args.class.0 c.args.kind c.args.len))
    (c.set.ensures.entry ∙ ap (λ (e : Entry). put (entry_at c.args.p.now.names.table) c.args.s.0 (opened e c.args.at.place c.args.class.0 c.args.kind c.args.len)) c.used_entry-e.ensures) refl refl (ap (λ (n : ℕ). 2 * n + 2) c.set.ensures.entries)

pub returns-clause-parts : goal.returns-clause-parts
returns-clause-parts c = record {
  core = subst IsCore (sym (returns-clause-core c)) (step-core (core_of c.args.p.now) c.args.s.0 (opened ((core_of c.args.p.now).entries c.args.s.0) c.args.at.place c.args.class.0 c.args.kind c.args.len) c.requires.parts.core
      (opening-step (core_of c.args.p.now) c.args.s.0 c.args.at.place (opened ((core_of c.args.p.now).entries c.args.s.0) c.args.at.place c.args.class.0 c.args.kind c.args.len) c.requires.parts.core c.requires.opening));
  room = let room = c.requires.parts.room in let same = c.set.ensures.free in omega arith;
}
