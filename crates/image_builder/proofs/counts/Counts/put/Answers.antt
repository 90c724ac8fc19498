use Rattle.object_memory.proofs.MapLaws.{small-insert}
use Rattle.image_builder.proofs.counts.Counts.put.Goals as goal

pub invariant_of-self : goal.invariant_of-self
invariant_of-self c = record { small = small-insert c.insert.result c.args.self.now.words c.insert.new.self c.args.name c.args.count c.insert.ensures.updates c.insert.ensures.err c.args.self.now.small c.ranges.count.fits }
