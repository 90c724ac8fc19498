use Rattle.std.proofs.Common.{refl, ◌∙◌, arith}
use Rattle.object_table.specs.Table.{entries_of, free_of}
use Rattle.object_table.proofs.VacantLaws.{free-is}
use Rattle.object_table.proofs.table.Table.take.Goals as goal

pub returns-then-self-eq0-clause-none : goal.returns-then-self-eq0-clause-none
unfolding free_of
returns-then-self-eq0-clause-none c =
    let t = c.args.self.now in
    (free-is t.entries.items t.vacant.items t.size t.free t.known t.within t.counted ∙ c.if-self-eq0.true, refl)

pub fill-place-requires-clause-some : goal.fill-place-requires-clause-some
unfolding free_of
fill-place-requires-clause-some c =
    let t = c.args.self.now in
    let is = free-is t.entries.items t.vacant.items t.size t.free t.known t.within t.counted in
    omega (arith, c.if-self-eq0.false)

pub overflow_add-result : goal.overflow_add-result
unfolding entries_of
overflow_add-result c = let small = c.args.self.now.small in omega (arith, c.fill-place.ensures.within)

pub overflow_mul-result : goal.overflow_mul-result
unfolding entries_of
overflow_mul-result c = let small = c.args.self.now.small in omega (arith, c.fill-place.ensures.within)
