use Rattle.std.proofs.Common.{ℕ, ◌+◌, ◌*◌, refl, sym, ◌∙◌, ap, subst, arith}
use Rattle.object_table.specs.declared.entry.Entry.{Entry}
use Rattle.object_table.specs.Entries.{put, is_used}
use Rattle.object_table.specs.Table.{entry_at}
use Rattle.core_view.specs.Core.{Core, with_entry}
use Rattle.core_view.specs.Held.{disk_with}
use Rattle.core_view.specs.Kept.{IsCore, KeepsOver}
use Rattle.core_view.specs.Steps.{written}
use Rattle.core_view.proofs.Core.{placed-used}
use Rattle.core_view.proofs.Entries.{step-core}
use Rattle.core_view.proofs.Records.{write-step, write-keeps}
use Rattle.leaf_lambda.specs.Parts.{core_of, IsWithin}
use Rattle.leaf_lambda.proofs.StepLaws.{core-is}
use Rattle.leaf_lambda.proofs.LeavingLaws.{written-within}
use Rattle.leaf_lambda.proofs.leaving.set_written.Goals as goal

pub used_entry-e-requires : goal.used_entry-e-requires
unfolding core_of
used_entry-e-requires c = placed-used ((core_of c.args.p.now).entries c.args.s.0).state c.requires.body.0 c.requires.body.1

pub set-requires-clause-short : goal.set-requires-clause-short
unfolding core_of
set-requires-clause-short c = c.requires.parts.core.short c.args.s.0 (placed-used ((core_of c.args.p.now).entries c.args.s.0).state c.requires.body.0 c.requires.body.1)

pub set-requires-clause-within : goal.set-requires-clause-within
unfolding core_of
set-requires-clause-within c = c.requires.parts.core.within c.args.s.0 (placed-used ((core_of c.args.p.now).entries c.args.s.0).state c.requires.body.0 c.requires.body.1)

pub set-requires-clause-used : goal.set-requires-clause-used
unfolding core_of
set-requires-clause-used c = (placed-used ((core_of c.args.p.now).entries c.args.s.0).state c.requires.body.0 c.requires.body.1)

pub set-requires-clause-stays : goal.set-requires-clause-stays
unfolding core_of
set-requires-clause-stays c = ap (λ (e : Entry). is_used e.state) c.used_entry-e.ensures ∙ (placed-used ((core_of c.args.p.now).entries c.args.s.0).state c.requires.body.0 c.requires.body.1)

pub returns-clause-core : goal.returns-clause-core
unfolding core_of
returns-clause-core c = core-is _ (with_entry (core_of c.args.p.now) c.args.s.0 (written ((core_of c.args.p.now).entries c.args.s.0)))
    (c.set.ensures.entry ∙ ap (λ (e : Entry). put (entry_at c.args.p.now.names.table) c.args.s.0 (written e)) c.used_entry-e.ensures) refl refl (ap (λ (n : ℕ). 2 * n + 2) c.set.ensures.entries)

pub returns-clause-parts : goal.returns-clause-parts
returns-clause-parts c = record {
  core = subst IsCore (sym (returns-clause-core c)) (step-core (core_of c.args.p.now) c.args.s.0 (written ((core_of c.args.p.now).entries c.args.s.0)) c.requires.parts.core (write-step (core_of c.args.p.now) c.args.s.0 c.requires.parts.core (placed-used ((core_of c.args.p.now).entries c.args.s.0).state c.requires.body.0 c.requires.body.1)));
  room = let room = c.requires.parts.room in let same = c.set.ensures.free in omega arith;
}

pub returns-clause-keeps : goal.returns-clause-keeps
returns-clause-keeps c = λ disk at backed place. subst (λ (d : Core). KeepsOver (core_of c.args.p.now) disk d (disk_with (core_of c.args.p.now) disk c.args.s.0 at)) (sym (returns-clause-core c)) (write-keeps (core_of c.args.p.now) disk c.args.s.0 at c.requires.parts.core backed place)

pub returns-clause-within : goal.returns-clause-within
returns-clause-within c = subst (λ (d : Core). IsWithin c.args.s.0 (core_of c.args.p.now) d) (sym (returns-clause-core c)) (written-within (core_of c.args.p.now) c.args.s.0 c.requires.parts.core (placed-used ((core_of c.args.p.now).entries c.args.s.0).state c.requires.body.0 c.requires.body.1))

pub returns-clause-find : goal.returns-clause-find
returns-clause-find c = ap (λ (d : Core). d.find) (returns-clause-core c)
