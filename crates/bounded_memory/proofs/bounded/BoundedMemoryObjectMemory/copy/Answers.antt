use Rattle.std.proofs.Common.{refl}
use Rattle.bounded_memory.proofs.MemoryLaws.{sound-still, ready-still}
use Rattle.bounded_memory.proofs.bounded.BoundedMemoryObjectMemory.copy.Goals as goal

pub returns-clause-fit : goal.returns-clause-fit
returns-clause-fit c = record {
  sound = sound-still c.args.self.now c.copy.new.self _ c.copy.ensures.told refl refl c.requires;
  ready = ready-still c.args.self.now c.copy.new.self _ c.copy.ensures.told refl c.copy.ensures.fit.ready;
  lender = refl;
  outside = refl;
}
