use Rattle.std.proofs.Common.{ℕ, ◌+◌, ◌*◌, refl, sym, ap, subst, arith}
use Rattle.object_table.specs.declared.table.Table.{Table}
use Rattle.object_table.specs.Table.{entry_at}
use Rattle.core_view.specs.Core.{Core, with_leaf}
use Rattle.core_view.specs.Kept.{IsCore}
use Rattle.core_view.proofs.Leaves.{leaf-core}
use Rattle.leaf_lambda.specs.Parts.{core_of, IsParts, IsLeafStep}
use Rattle.leaf_lambda.proofs.StepLaws.{core-is, free-unused, leaf-comes, none-comes}
use Rattle.leaf_lambda.proofs.steps.leaf.Goals as goal

pub insert-requires-clause-absent : goal.insert-requires-clause-absent
unfolding core_of
insert-requires-clause-absent c = c.requires.absent

pub insert-requires-clause-room : goal.insert-requires-clause-room
insert-requires-clause-room c = let room = c.requires.parts.room in let free = c.in-Some.ensures.free in omega arith

pub returns-in-Some-clause-leaf : goal.returns-in-Some-clause-leaf
unfolding core_of
returns-in-Some-clause-leaf c = (
  record { unused = free-unused (entry_at c.args.p.now.names.table c.in-Some.s.0) c.in-Some.ensures.was_free; short = c.in-Some.ensures.short.0; within = c.in-Some.ensures.short.1; absent = c.requires.absent },
  core-is _ (with_leaf (core_of c.args.p.now) c.in-Some.s.0 c.args.name) c.in-Some.ensures.entry c.insert.ensures.find refl (ap (λ (n : ℕ). 2 * n + 2) c.in-Some.ensures.entries),
)

pub returns-in-Some-clause-parts : goal.returns-in-Some-clause-parts
returns-in-Some-clause-parts c =
    let it = returns-in-Some-clause-leaf c in
    record {
      core = subst IsCore (sym it.1) (leaf-core (core_of c.args.p.now) c.in-Some.s.0 c.args.name c.requires.parts.core it.0);
      room = let room = c.requires.parts.room in let free = c.in-Some.ensures.free in let held = c.insert.ensures.held in let same = c.insert.ensures.room in omega arith;
    }

pub returns-in-Some-clause-step : goal.returns-in-Some-clause-step
returns-in-Some-clause-step c = let it = returns-in-Some-clause-leaf c in subst (λ (d : Core). IsLeafStep (core_of c.args.p.now) d) (sym it.1) (leaf-comes (core_of c.args.p.now) c.in-Some.s.0 c.args.name c.requires.parts.core it.0)

-- nothing changed
pub returns-in-None-clause-parts : goal.returns-in-None-clause-parts
returns-in-None-clause-parts c = subst (λ (t : Table). IsParts (record { segment = c.args.p.now.segment; names = record { table = t; resident = c.args.p.now.names.resident } })) (sym c.in-None.ensures.none.1) c.requires.parts

pub returns-in-None-clause-step : goal.returns-in-None-clause-step
returns-in-None-clause-step c = subst (λ (t : Table). IsLeafStep (core_of c.args.p.now) (core_of (record { segment = c.args.p.now.segment; names = record { table = t; resident = c.args.p.now.names.resident } }))) (sym c.in-None.ensures.none.1) (none-comes (core_of c.args.p.now))

pub returns-in-None-clause-same : goal.returns-in-None-clause-same
returns-in-None-clause-same c = λ i. record { segment = c.args.p.now.segment; names = record { table = c.in-None.ensures.none.1 i; resident = c.args.p.now.names.resident } }
