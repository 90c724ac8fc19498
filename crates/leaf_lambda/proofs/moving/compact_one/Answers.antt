use Rattle.std.proofs.Common.{◌≡◌, ℕ, ◌+◌, ◌*◌, refl, sym, ◌∙◌, ap, subst, arith}
use Rattle.object_table.specs.declared.entry.Entry.{Entry}
use Rattle.object_table.specs.Entries.{put}
use Rattle.object_table.specs.Table.{entry_at}
use Rattle.core_view.proofs.Core.{placed-used}
use Rattle.core_view.proofs.Moves.{move-core, move-stays, chunks-move}
use Rattle.leaf_lambda.specs.Parts.{core_of}
use Rattle.core_view.specs.Kept.{IsTight}
use Rattle.core_view.specs.Steps.{at_another}
use Rattle.core_view.proofs.Compaction.{owner-place, move-step, move-tight}
use Rattle.leaf_lambda.proofs.moving.compact_one.Goals as goal

pub used_entry-e-requires : goal.used_entry-e-requires
unfolding core_of
used_entry-e-requires c = placed-used ((core_of c.args.p.now).entries c.in-Some.moved.owner).state _ (owner-place (core_of c.args.p.now) _ c.in-Some.moved c.requires.tight c.in-Some.ensures.moved)

pub set-requires-clause-short : goal.set-requires-clause-short
unfolding core_of
set-requires-clause-short c = c.requires.parts.core.short c.in-Some.moved.owner (placed-used ((core_of c.args.p.now).entries c.in-Some.moved.owner).state _ (owner-place (core_of c.args.p.now) _ c.in-Some.moved c.requires.tight c.in-Some.ensures.moved))

pub set-requires-clause-within : goal.set-requires-clause-within
unfolding core_of
set-requires-clause-within c = c.requires.parts.core.within c.in-Some.moved.owner (placed-used ((core_of c.args.p.now).entries c.in-Some.moved.owner).state _ (owner-place (core_of c.args.p.now) _ c.in-Some.moved c.requires.tight c.in-Some.ensures.moved))

pub set-requires-clause-used : goal.set-requires-clause-used
unfolding core_of
set-requires-clause-used c = placed-used ((core_of c.args.p.now).entries c.in-Some.moved.owner).state _ (owner-place (core_of c.args.p.now) _ c.in-Some.moved c.requires.tight c.in-Some.ensures.moved)

pub returns-in-None-clause-moves : goal.returns-in-None-clause-moves
unfolding core_of
returns-in-None-clause-moves c = chunks-move (core_of c.args.p.now) _ refl refl refl (λ q p at. ap (λ f. f p) c.in-None.ensures.none.1)

pub returns-in-None-clause-parts : goal.returns-in-None-clause-parts
unfolding core_of
returns-in-None-clause-parts c = record { core = move-core (core_of c.args.p.now) _ c.requires.parts.core (returns-in-None-clause-moves c); room = c.requires.parts.room }

pub returns-in-None-clause-tight : goal.returns-in-None-clause-tight
unfolding core_of
returns-in-None-clause-tight c = subst (λ f. IsTight (record (core_of c.args.p.now) { chunks = f })) (sym c.in-None.ensures.none.1) c.requires.tight

entries-are : (c : goal.After-set) → entry_at c.set.new.self ≡ put (entry_at c.args.p.now.names.table) c.in-Some.moved.owner (at_another (entry_at c.args.p.now.names.table c.in-Some.moved.owner) c.in-Some.moved.to.place)
entries-are c = c.set.ensures.entry ∙ ap (λ (e : Entry). put (entry_at c.args.p.now.names.table) c.in-Some.moved.owner (at_another e c.in-Some.moved.to.place)) c.used_entry-e.ensures

pub returns-in-Some-clause-moves : goal.returns-in-Some-clause-moves
unfolding core_of
returns-in-Some-clause-moves c = move-step (core_of c.args.p.now) _ c.in-Some.moved c.requires.parts.core c.requires.tight c.in-Some.ensures.moved (entries-are c) refl (ap (λ (n : ℕ). 2 * n + 2) c.set.ensures.entries)

pub returns-in-Some-clause-parts : goal.returns-in-Some-clause-parts
unfolding core_of
returns-in-Some-clause-parts c = record { core = move-core (core_of c.args.p.now) _ c.requires.parts.core (returns-in-Some-clause-moves c); room = let room = c.requires.parts.room in let same = c.set.ensures.free in omega arith }

pub returns-in-Some-clause-tight : goal.returns-in-Some-clause-tight
unfolding core_of
returns-in-Some-clause-tight c = move-tight (core_of c.args.p.now) _ c.in-Some.moved c.requires.parts.core c.requires.tight c.in-Some.ensures.moved (entries-are c)

pub returns-in-None-clause-stays : goal.returns-in-None-clause-stays
returns-in-None-clause-stays c = move-stays (core_of c.args.p.now) _ c.requires.parts.core (returns-in-None-clause-moves c)

pub returns-in-Some-clause-stays : goal.returns-in-Some-clause-stays
returns-in-Some-clause-stays c = move-stays (core_of c.args.p.now) _ c.requires.parts.core (returns-in-Some-clause-moves c)

pub returns-in-None-clause-same : goal.returns-in-None-clause-same
unfolding core_of
returns-in-None-clause-same c = λ no. ap (λ f. record (core_of c.args.p.now) { chunks = f }) c.in-None.ensures.none.1
