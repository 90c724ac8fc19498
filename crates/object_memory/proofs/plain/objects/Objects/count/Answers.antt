use Rattle.std.proofs.Common.{arith}
use Rattle.object_memory.proofs.MapLaws.{map-counted, map-few}
use Rattle.object_memory.proofs.plain.objects.Objects.count.Goals as goal

pub overflow_cast-result : goal.overflow_cast-result
overflow_cast-result c = let few = map-few c.args.self.now in let fits = c.args.self.now.stored.fits in omega (arith, c.len.ensures)

pub returns-clause-value : goal.returns-clause-value
returns-clause-value c = let counted = map-counted c.args.self.now in omega (arith, c.len.ensures)

pub returns-clause-below : goal.returns-clause-below
returns-clause-below c = let few = map-few c.args.self.now in omega (arith, c.len.ensures)
