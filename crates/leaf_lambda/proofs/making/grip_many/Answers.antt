use Rattle.std.proofs.Common.{◌≡◌, ℕ, ◌+◌, ◌*◌, refl, sym, ◌∙◌, ap, subst, arith}
use Rattle.object_table.specs.declared.entry.Entry.{Entry}
use Rattle.object_table.specs.Entries.{put, is_used, with_refs}
use Rattle.object_table.specs.Table.{entry_at}
use Rattle.core_view.specs.Kept.{IsCore}
use Rattle.core_view.specs.Steps.{with_refs_of}
use Rattle.core_view.proofs.Steps.{refs-core}
use Rattle.leaf_lambda.specs.Parts.{core_of}
use Rattle.leaf_lambda.proofs.StepLaws.{core-is}
use Rattle.leaf_lambda.proofs.MakeLaws.{many-uses, many-refs}
use Rattle.leaf_lambda.proofs.making.grip_many.Goals as goal

pub used_entry-e-requires : goal.used_entry-e-requires
unfolding core_of
used_entry-e-requires c = c.requires.used

pub set-requires-clause-short : goal.set-requires-clause-short
unfolding core_of
set-requires-clause-short c = c.requires.parts.core.short c.args.s.0 c.requires.used

pub set-requires-clause-within : goal.set-requires-clause-within
unfolding core_of
set-requires-clause-within c = c.requires.parts.core.within c.args.s.0 c.requires.used

pub set-requires-clause-used : goal.set-requires-clause-used
unfolding core_of
set-requires-clause-used c = c.requires.used

pub set-requires-clause-stays : goal.set-requires-clause-stays
unfolding core_of
set-requires-clause-stays c = ap (λ (e : Entry). is_used e.state) c.used_entry-e.ensures ∙ c.requires.used

pub returns-clause-core : goal.returns-clause-core
unfolding core_of
returns-clause-core c = core-is _ (with_refs_of (core_of c.args.p.now) c.args.s.0 (((core_of c.args.p.now).entries c.args.s.0).refs + c.args.n))
    (c.set.ensures.entry ∙ ap (λ (e : Entry). put (entry_at c.args.p.now.names.table) c.args.s.0 (with_refs e (e.refs + c.args.n))) c.used_entry-e.ensures) refl refl (ap (λ (n : ℕ). 2 * n + 2) c.set.ensures.entries)

pub returns-clause-parts : goal.returns-clause-parts
returns-clause-parts c = record {
  core = subst IsCore (sym (returns-clause-core c)) (refs-core (core_of c.args.p.now) c.args.s.0 (((core_of c.args.p.now).entries c.args.s.0).refs + c.args.n) c.requires.parts.core c.requires.used (many-uses (core_of c.args.p.now) c.args.s.0 c.args.n c.requires.parts.core));
  room = let room = c.requires.parts.room in let same = c.set.ensures.free in omega arith;
}

pub overflow_add-e : goal.overflow_add-e
unfolding core_of
overflow_add-e c =
    let fits = many-refs (core_of c.args.p.now) c.args.s.0 c.args.n c.requires.parts.core c.requires.light in
    let same : c.used_entry-e.result.refs ≡ ((core_of c.args.p.now).entries c.args.s.0).refs = ap (λ (e : Entry). e.refs) c.used_entry-e.ensures in
    omega arith
