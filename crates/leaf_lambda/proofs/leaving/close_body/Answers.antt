use Rattle.std.proofs.Common.{ℕ, ◌+◌, ◌*◌, refl, sym, ◌∙◌, ap, subst, arith}
use Rattle.object_table.specs.declared.entry.Entry.{Entry}
use Rattle.object_table.specs.Entries.{put}
use Rattle.object_table.specs.Table.{entry_at}
use Rattle.core_view.specs.Core.{with_entry}
use Rattle.core_view.specs.Kept.{IsCore}
use Rattle.core_view.specs.Steps.{closed}
use Rattle.core_view.proofs.Core.{placed-used}
use Rattle.core_view.proofs.Entries.{step-core}
use Rattle.core_view.proofs.Bodies.{closing-step}
use Rattle.leaf_lambda.specs.Parts.{core_of}
use Rattle.leaf_lambda.proofs.StepLaws.{core-is}
use Rattle.leaf_lambda.proofs.leaving.close_body.Goals as goal

pub used_entry-e-requires : goal.used_entry-e-requires
unfolding core_of
used_entry-e-requires c = placed-used ((core_of c.args.p.now).entries c.args.s.0).state c.args.at.place c.requires.place

pub set-requires-clause-short : goal.set-requires-clause-short
unfolding core_of
set-requires-clause-short c = c.requires.parts.core.short c.args.s.0 (placed-used ((core_of c.args.p.now).entries c.args.s.0).state c.args.at.place c.requires.place)

pub set-requires-clause-within : goal.set-requires-clause-within
unfolding core_of
set-requires-clause-within c = c.requires.parts.core.within c.args.s.0 (placed-used ((core_of c.args.p.now).entries c.args.s.0).state c.args.at.place c.requires.place)

pub set-requires-clause-used : goal.set-requires-clause-used
unfolding core_of
set-requires-clause-used c = (placed-used ((core_of c.args.p.now).entries c.args.s.0).state c.args.at.place c.requires.place)

pub returns-clause-core : goal.returns-clause-core
unfolding core_of
returns-clause-core c = core-is _ (with_entry (core_of c.args.p.now) c.args.s.0 (closed ((core_of c.args.p.now).entries c.args.s.0)))
    (c.set.ensures.entry ∙ ap (λ (e : Entry). put (entry_at c.args.p.now.names.table) c.args.s.0 (closed e)) c.used_entry-e.ensures) refl refl (ap (λ (n : ℕ). 2 * n + 2) c.set.ensures.entries)

pub returns-clause-parts : goal.returns-clause-parts
returns-clause-parts c = record {
  core = subst IsCore (sym (returns-clause-core c)) (step-core (core_of c.args.p.now) c.args.s.0 (closed ((core_of c.args.p.now).entries c.args.s.0)) c.requires.parts.core
      (closing-step (core_of c.args.p.now) c.args.s.0 c.args.at.place (closed ((core_of c.args.p.now).entries c.args.s.0)) c.requires.parts.core (record { place = c.requires.place; gone = refl; still = refl; name = refl; refs = refl })));
  room = let room = c.requires.parts.room in let same = c.set.ensures.free in omega arith;
}
