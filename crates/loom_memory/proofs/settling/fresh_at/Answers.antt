use Rattle.std.proofs.Common.{ℕ, Bool, cond, ◌∙◌, sym, ap}
use Rattle.core_view.specs.Purge.{fresh_by}
use Rattle.core_view.proofs.Fresh.{fresh-placed, fresh-unplaced}
use Rattle.leaf_lambda.specs.Parts.{core_of}
use Rattle.purger.proofs.RoomLaws.{none-of, some-of}
use Rattle.loom_memory.proofs.settling.fresh_at.Goals as goal

pub returns-then-not-is_some : goal.returns-then-not-is_some
unfolding core_of
returns-then-not-is_some c = sym (ap fresh_by (sym c.entry-e.ensures) ∙ fresh-unplaced c.entry-e.result
    (let none = none-of c.place.result c.is_some.result c.is_some.ensures c.if-not-is_some.true in let is = c.place.ensures in cc))

pub returns-then-e : goal.returns-then-e
unfolding core_of
returns-then-e c =
    let there = some-of c.place.result c.is_some.result c.is_some.ensures c.if-not-is_some.false in
    sym (ap fresh_by (sym c.entry-e.ensures) ∙ fresh-placed c.entry-e.result there.0 (let is = c.place.ensures in let some = there.1 in cc) ∙ ap (λ (b : Bool). cond {A = ℕ} b 1 0) c.if-e.true)

pub returns-else-e : goal.returns-else-e
unfolding core_of
returns-else-e c =
    let there = some-of c.place.result c.is_some.result c.is_some.ensures c.if-not-is_some.false in
    sym (ap fresh_by (sym c.entry-e.ensures) ∙ fresh-placed c.entry-e.result there.0 (let is = c.place.ensures in let some = there.1 in cc) ∙ ap (λ (b : Bool). cond {A = ℕ} b 1 0) c.if-e.false)
