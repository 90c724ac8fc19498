use Rattle.std.proofs.Common.{refl}
use Rattle.bounded_memory.proofs.MemoryLaws.{sound-still, ready-still}
use Rattle.bounded_memory.proofs.bounded.BoundedMemoryObjectMemory.int.Goals as goal

pub returns-clause-fit : goal.returns-clause-fit
returns-clause-fit c = record {
  sound = sound-still c.args.self.now c.int.new.self _ c.int.ensures.told refl refl c.requires.sound;
  ready = ready-still c.args.self.now c.int.new.self _ c.int.ensures.told refl c.int.ensures.fit.ready;
  lender = refl;
  outside = refl;
}
