use Rattle.std.proofs.Common.{◌≡◌, ℕ, ◌+◌, ◌*◌, refl, sym, ◌∙◌, ap, subst, arith}
use Rattle.object_table.specs.declared.entry.Entry.{Entry}
use Rattle.object_table.specs.Entries.{put, is_used}
use Rattle.object_table.specs.Table.{entry_at}
use Rattle.core_view.specs.Core.{with_entry}
use Rattle.core_view.specs.Kept.{IsCore}
use Rattle.core_view.proofs.Core.{placed-used}
use Rattle.leaf_lambda.specs.Parts.{core_of}
use Rattle.leaf_lambda.proofs.StepLaws.{core-is}
use Rattle.loom_memory.specs.Cache.{with_its_mark}
use Rattle.loom_memory.proofs.RowLaws.{marked-core}
use Rattle.loom_memory.proofs.cache.set_mark.Goals as goal

pub used_entry-e-requires : goal.used_entry-e-requires
unfolding core_of
used_entry-e-requires c = placed-used ((core_of c.args.p.now).entries c.args.s.0).state c.requires.there.0 c.requires.there.1

pub set-requires-clause-within : goal.set-requires-clause-within
unfolding core_of
set-requires-clause-within c = c.requires.parts.core.within c.args.s.0 (placed-used ((core_of c.args.p.now).entries c.args.s.0).state c.requires.there.0 c.requires.there.1)

pub set-requires-clause-used : goal.set-requires-clause-used
unfolding core_of
set-requires-clause-used c = placed-used ((core_of c.args.p.now).entries c.args.s.0).state c.requires.there.0 c.requires.there.1

pub set-requires-clause-stays : goal.set-requires-clause-stays
unfolding core_of
set-requires-clause-stays c = ap (λ (e : Entry). is_used e.state) c.used_entry-e.ensures ∙ placed-used ((core_of c.args.p.now).entries c.args.s.0).state c.requires.there.0 c.requires.there.1

core-then : (c : goal.After-set) → core_of (record c.args.p.now { names = record c.args.p.now.names { table = c.set.new.self } }) ≡ with_entry (core_of c.args.p.now) c.args.s.0 (with_its_mark ((core_of c.args.p.now).entries c.args.s.0))
unfolding core_of
core-then c = core-is _ (with_entry (core_of c.args.p.now) c.args.s.0 (with_its_mark ((core_of c.args.p.now).entries c.args.s.0)))
    (c.set.ensures.entry ∙ ap (λ (e : Entry). put (entry_at c.args.p.now.names.table) c.args.s.0 (with_its_mark e)) c.used_entry-e.ensures) refl refl (ap (λ (n : ℕ). 2 * n + 2) c.set.ensures.entries)

pub returns-clause-parts : goal.returns-clause-parts
returns-clause-parts c = record {
  core = subst IsCore (sym (core-then c)) (marked-core (core_of c.args.p.now) c.args.s.0 c.requires.parts.core (placed-used ((core_of c.args.p.now).entries c.args.s.0).state c.requires.there.0 c.requires.there.1));
  room = let room = c.requires.parts.room in let same = c.set.ensures.free in omega arith;
}

pub returns-clause-core : goal.returns-clause-core
returns-clause-core c = core-then c
